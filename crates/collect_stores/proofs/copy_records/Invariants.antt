-- The records that have come are copied.
use Rattle.collect_stores.specs.Moving.{Moving}
use Rattle.collect_stores.proofs.copy_records.Given as goal

abbrev pub invariant-loop-place : goal.invariant-loop-place
invariant-loop-place l = Moving l.fn.image l.places l.to l.image l.at l.place-index
