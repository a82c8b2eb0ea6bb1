-- One more byte is copied at each turn.
use Rattle.byte_store.specs.Storing.{copying_begins, copying_step}
use Rattle.byte_store.proofs.copy.Goals as goal

pub loop-i-init : goal.loop-i-init
loop-i-init c = copying_begins _ _ _ _

pub loop-i-preserved : goal.loop-i-preserved
loop-i-preserved c = copying_step _ _ _ _ _ _ c.loop-i.invariant c.requires c.loop-i-test.true
