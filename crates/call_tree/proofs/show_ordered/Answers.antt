use Rattle.volume_laws.specs.Sort.{sort_mem}
use Rattle.inode_order.specs.Order.{place_before}
use Rattle.call_tree.proofs.show_ordered.Goals as goal

pub show_tree-requires-clause-showable : goal.show_tree-requires-clause-showable
show_tree-requires-clause-showable c =
    let r = c.requires in
    let before = place_before c.args.blocks.now.image.now in
    rw c.order_inodes.ensures
    (record { blocks = r.block_table; few = r.ids_len_bound; inodes = λ p m. r.inodes p (sort_mem before c.args.inodes.now m) })
