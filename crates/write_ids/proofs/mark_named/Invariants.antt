-- The names of the records that have come are marked.
use Rattle.write_ids.specs.Laws.{Marking}
use Rattle.write_ids.proofs.mark_named.Given as goal

abbrev pub invariant-loop-p : goal.invariant-loop-p
invariant-loop-p l = Marking l.image l.places l.first l.words l.p-index
