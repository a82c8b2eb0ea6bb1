use Rattle.std.proofs.Common.{◌∙◌, sym, refl, arith}
use Rattle.volume_laws.specs.Lists.{get_or_mem}
use Rattle.inode_order.specs.Insertion.{sort_begins, last_mem, last_sorted, sort_on}
use Rattle.inode_order.proofs.Names.{place_order}
use Rattle.inode_order.proofs.order_inodes.Goals as goal

pub loop-count-init : goal.loop-count-init
loop-count-init c = sort_begins c.args.order.now

pub place_for-at-requires-clause-inode_at : goal.place_for-at-requires-clause-inode_at
place_for-at-requires-clause-inode_at c = c.requires.inodes _ (get_or_mem c.args.spots.now _ 0 (omega arith))

pub place_for-at-requires-clause-inodes : goal.place_for-at-requires-clause-inodes
place_for-at-requires-clause-inodes c = λ p m. c.requires.inodes p (last_mem c.loop-count.invariant m)

pub place_for-at-requires-clause-sorted : goal.place_for-at-requires-clause-sorted
place_for-at-requires-clause-sorted c = last_sorted c.loop-count.invariant (place_order c.args.image.now)

pub loop-count-preserved : goal.loop-count-preserved
loop-count-preserved c =
    sort_on c.loop-count.invariant (omega arith) _ refl c.insert_at.new.order (c.insert_at.ensures ∙ sym c.place_for-at.ensures.is)
