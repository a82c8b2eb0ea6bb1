use Rattle.area_kinds.specs.Kinds.{Sorting}
use Rattle.area_kinds.proofs.sort_areas.Given as goal

abbrev pub invariant-loop-i : goal.invariant-loop-i
invariant-loop-i l = Sorting l.image l.pairs l.fn.rows l.rows l.files l.scratch l.i
