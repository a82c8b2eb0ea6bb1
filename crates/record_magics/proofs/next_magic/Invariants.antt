-- The search has passed over no record.
use Rattle.std.proofs.Common.{◌-◌, length}
use Rattle.record_magics.specs.Magic.{Onward}
use Rattle.record_magics.proofs.next_magic.Given as goal

abbrev pub invariant-loop-at : goal.invariant-loop-at
invariant-loop-at l = Onward l.area l.from l.at

abbrev pub decreases-loop-at : goal.decreases-loop-at
decreases-loop-at l = length l.area - l.at
