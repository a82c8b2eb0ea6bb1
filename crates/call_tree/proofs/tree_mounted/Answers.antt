use Rattle.std.proofs.Common.{sym, ap, ◌∙◌, arith}
use Rattle.format.specs.Ids.{root_id}
use Rattle.area_pass.specs.Bridge.{placed_volume}
use Rattle.table_rows.specs.Answer.{meant}
use Rattle.inode_order.proofs.Names.{table_inodes}
use Rattle.mount_state.specs.Bridge.{inode_rows_long, inodes_number}
use Rattle.call_tree.specs.Outcome.{found_inode, root_found, rows_list, entries_few, tree_answers}
use Rattle.call_tree.proofs.tree_mounted.Goals as goal

pub returns-in_default : goal.returns-in_default
returns-in_default c =
    let e = c.inode_rows-inodes.ensures in
    let f = rw (e.ids, e.spots) at c.find.ensures in
    λ ds h. absurd (root_found c.args.image.now ds h.number (h.inodes.counts root_id ∙ sym f ∙ ap meant c.in_default.is))

pub show_ordered-length-requires-clause-inodes : goal.show_ordered-length-requires-clause-inodes
show_ordered-length-requires-clause-inodes c =
    let e = c.inode_rows-inodes.ensures in
    rw (e.spots, c.block_rows-blocks.ensures.image) (table_inodes c.requires.safe.inodes)

pub show_ordered-length-requires-clause-inode_at : goal.show_ordered-length-requires-clause-inode_at
show_ordered-length-requires-clause-inode_at c =
    let e = c.inode_rows-inodes.ensures in
    let f = rw (e.ids, e.spots) at c.find.ensures in
    rw c.block_rows-blocks.ensures.image (found_inode c.requires.safe.inodes root_id c.in-Some.root (sym f ∙ ap meant c.in-Some.is))

pub overflow_cast-result : goal.overflow_cast-result
overflow_cast-result c = omega (arith, c.show_ordered-length.ensures.within)

pub returns : goal.returns
returns c =
    let image = c.args.image.now in
    let e = c.inode_rows-inodes.ensures in
    let b = c.block_rows-blocks.ensures in
    let f = rw (e.ids, e.spots) at c.find.ensures in
    let told = rw (e.spots, b.image, b.ids, b.spots) at c.show_ordered-length.ensures.told in
    λ ds h. tree_answers image ds h.number _ _ _
    (told (placed_volume image ds)
    (rows_list image (placed_volume image ds) _ _ _ _ c.requires.safe.inodes.usable.pairs h.inodes h.blocks)
    (h.inodes.counts root_id ∙ sym f ∙ ap meant c.in-Some.is)
    (omega (arith, c.requires.safe.inodes.usable.pairs, inode_rows_long c.requires.safe h, entries_few image ds, inodes_number c.requires.safe h)))
