use Rattle.std.proofs.Common.{sym, ap, ◌∙◌, arith}
use Rattle.collect_source.specs.Source.{area_at, source_here, source_else}
use Rattle.collect_source.proofs.choose_source.Goals as goal

pub returns-in-Some-clause-is : goal.returns-in-Some-clause-is
returns-in-Some-clause-is c = source_here _ _ _ _ _ c.in-Some.ensures.is c.in-Some.ensures.within

pub returns-then-longest-spans-clause-is : goal.returns-then-longest-spans-clause-is
returns-then-longest-spans-clause-is c =
    rw c.position-longest.ensures.first (source_else _ _ _ _ _ c.in_default.ensures.is (sym c.requires.pairs) (omega arith))

pub returns-then-longest-spans-clause-within : goal.returns-then-longest-spans-clause-within
returns-then-longest-spans-clause-within c = omega (arith, c.if-longest-spans.true, c.requires.pairs)

pub returns-clause-is : goal.returns-clause-is
returns-clause-is c =
    ap (area_at c.args.starts.now c.args.spans.now)
    (omega (arith, c.position-longest.ensures.first, c.position-longest.ensures.within, c.if-longest-spans.false, c.requires.pairs))
    ∙ source_else _ _ _ _ _ c.in_default.ensures.is (sym c.requires.pairs) (omega arith)
