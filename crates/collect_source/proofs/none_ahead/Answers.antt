use Rattle.std.proofs.Common.{sym, ◌∙◌, arith}
use Rattle.collect_source.specs.Source.{none_fails, none_passes, none_ends}
use Rattle.collect_source.proofs.none_ahead.Goals as goal

pub bounds-spans-i : goal.bounds-spans-i
bounds-spans-i c = omega (arith, c.requires.pairs, c.loop-i-test.true)

pub is_ahead-requires : goal.is_ahead-requires
is_ahead-requires c =
    let h = c.requires.long c.loop-i.i c.loop-i-test.true in
    let f = c.requires.inside c.loop-i.i c.loop-i-test.true in
    (omega arith, omega arith)

pub returns-then-is_ahead : goal.returns-then-is_ahead
returns-then-is_ahead c =
    sym (none_fails _ _ (sym c.requires.pairs) _ _ _ _ c.loop-i-test.true (sym c.is_ahead.ensures ∙ c.if-is_ahead.true)) ∙ c.loop-i.invariant

pub loop-i-preserved : goal.loop-i-preserved
loop-i-preserved c =
    sym (none_passes _ _ (sym c.requires.pairs) _ _ _ _ c.loop-i-test.true (sym c.is_ahead.ensures ∙ c.if-is_ahead.false)) ∙ c.loop-i.invariant

pub returns : goal.returns
returns c = sym (none_ends _ _ (sym c.requires.pairs) _ _ _ _ c.loop-i-test.false) ∙ c.loop-i.invariant
