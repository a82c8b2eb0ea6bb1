use Rattle.std.proofs.Common.{◌≡◌, ◌≤◌, ◌-◌, length}
use Rattle.area_read.specs.Area.{next_record}
use Rattle.area_read.proofs.next_record.Given as goal

abbrev pub invariant-loop-at : goal.invariant-loop-at
invariant-loop-at l = (next_record l.area l.at ≡ next_record l.area l.from) × (l.at ≤ length l.area)

abbrev pub decreases-loop-at : goal.decreases-loop-at
decreases-loop-at l = length l.area - l.at
