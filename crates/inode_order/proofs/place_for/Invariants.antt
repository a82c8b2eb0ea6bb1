-- The place is `low` at least and `high` at most.
use Rattle.std.proofs.Common.{◌-◌}
use Rattle.inode_order.specs.Order.{place_before}
use Rattle.inode_order.specs.Insertion.{Searched}
use Rattle.inode_order.proofs.place_for.Given as goal

abbrev pub invariant-loop-low : goal.invariant-loop-low
invariant-loop-low l = Searched (place_before l.image) l.p l.order l.low l.high

abbrev pub decreases-loop-low : goal.decreases-loop-low
decreases-loop-low l = l.high - l.low
