use Rattle.inode_order.specs.Insertion.{moved_up}
use Rattle.inode_order.proofs.insert_at.Goals as goal

pub returns : goal.returns
returns c = rw c.copy_within.ensures.after (moved_up c.args.order.now c.args.count c.args.at c.args.p c.requires.0 c.requires.1)
