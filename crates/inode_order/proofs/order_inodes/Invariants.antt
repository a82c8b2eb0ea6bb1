-- The last `count` of the spots are sorted.
use Rattle.inode_order.specs.Order.{place_before}
use Rattle.inode_order.specs.Insertion.{LastSorted}
use Rattle.inode_order.proofs.order_inodes.Given as goal

abbrev pub invariant-loop-count : goal.invariant-loop-count
invariant-loop-count l = LastSorted (place_before l.image) l.spots l.count l.order
