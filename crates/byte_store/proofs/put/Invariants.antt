-- The first bytes are stored, in their order.
use Rattle.byte_store.specs.Storing.{Storing}
use Rattle.byte_store.proofs.put.Given as goal

abbrev pub invariant-loop-i : goal.invariant-loop-i
invariant-loop-i l = Storing l.initial.image l.at l.b l.i l.image
