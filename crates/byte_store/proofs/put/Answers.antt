-- One more byte is stored at each turn.
use Rattle.std.proofs.Common.{refl}
use Rattle.byte_store.specs.Storing.{storing_begins, storing_step}
use Rattle.byte_store.proofs.put.Goals as goal

pub loop-i-init : goal.loop-i-init
loop-i-init c = storing_begins _ _ _

pub loop-i-preserved : goal.loop-i-preserved
loop-i-preserved c = storing_step _ _ _ _ _ c.loop-i.invariant c.requires _ c.loop-i-test.true refl
