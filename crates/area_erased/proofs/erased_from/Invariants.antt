use Rattle.area_erased.specs.Erased.{ErasedFrom}
use Rattle.area_erased.proofs.erased_from.Given as goal

abbrev pub invariant-loop-i : goal.invariant-loop-i
invariant-loop-i l = ErasedFrom l.s l.i

abbrev pub decreases-loop-i : goal.decreases-loop-i
decreases-loop-i l = l.i
