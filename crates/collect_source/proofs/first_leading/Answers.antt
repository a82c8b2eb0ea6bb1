use Rattle.std.proofs.Common.{sym, ap, ◌∙◌, arith}
use Rattle.collect_source.specs.Source.{area_at, first_here, first_later, first_nowhere}
use Rattle.collect_source.proofs.first_leading.Goals as goal

pub bounds-spans-i : goal.bounds-spans-i
bounds-spans-i c = omega (arith, c.requires.pairs, c.loop-i-test.true)

pub leads-requires-clause-area_header_size_in_bounds : goal.leads-requires-clause-area_header_size_in_bounds
leads-requires-clause-area_header_size_in_bounds c =
    let h = c.requires.long c.loop-i.i c.loop-i-test.true in
    let f = c.requires.inside c.loop-i.i c.loop-i-test.true in
    (omega arith, omega arith)

pub returns-then-leads-clause-is : goal.returns-then-leads-clause-is
returns-then-leads-clause-is c =
    first_here _ _ (sym c.requires.pairs) _ _ c.loop-i-test.true (sym c.leads.ensures ∙ c.if-leads.true) ∙ c.loop-i.invariant

pub loop-i-preserved : goal.loop-i-preserved
loop-i-preserved c =
    sym (first_later _ _ (sym c.requires.pairs) _ _ c.loop-i-test.true (sym c.leads.ensures ∙ c.if-leads.false)) ∙ c.loop-i.invariant

pub returns-clause-is : goal.returns-clause-is
returns-clause-is c =
    ap (area_at c.args.starts.now c.args.spans.now) (omega (arith, c.loop-i-test.false, c.loop-i.auto.i-end))
    ∙ first_nowhere _ _ (sym c.requires.pairs) _ _ c.loop-i-test.false ∙ c.loop-i.invariant
