use Rattle.std.proofs.Common.{◌+◌, ◌-◌, ◌/◌, ◌∙◌, sym, arith}
use Rattle.volume_laws.specs.Lists.{get_or_mem}
use Rattle.inode_order.specs.Order.{place_before}
use Rattle.inode_order.specs.Insertion.{search_higher, search_ends}
use Rattle.inode_order.proofs.Names.{place_order}
use Rattle.inode_order.proofs.place_for.Goals as goal

pub comes_before-requires-clause-inode_at_2 : goal.comes_before-requires-clause-inode_at_2
comes_before-requires-clause-inode_at_2 c =
    c.requires.inodes _ (get_or_mem c.args.order.now (c.loop-low.low + (c.loop-low.high - c.loop-low.low) / 2) 0 (omega arith))

pub loop-low-preserved : goal.loop-low-preserved
loop-low-preserved c =
    search_higher (place_before c.args.image.now) c.loop-low.invariant (c.loop-low.low + (c.loop-low.high - c.loop-low.low) / 2) (omega arith) (omega arith)
    (place_order c.args.image.now) c.requires.sorted (sym c.comes_before.ensures ∙ c.if-comes_before.false)

pub returns-clause-is : goal.returns-clause-is
returns-clause-is c = search_ends (place_before c.args.image.now) c.loop-low.invariant (omega arith)
