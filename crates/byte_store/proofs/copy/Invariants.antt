-- The first bytes are copied, in their order.
use Rattle.byte_store.specs.Storing.{Copying}
use Rattle.byte_store.proofs.copy.Given as goal

abbrev pub invariant-loop-i : goal.invariant-loop-i
invariant-loop-i l = Copying l.initial.image l.from l.to l.n l.i l.image
