use Rattle.std.proofs.Common.{refl, sym, ◌∙◌}
use Rattle.area_pass.specs.Bridge.{placed_volume}
use Rattle.call_read.specs.Reads.{reads_nothing, reads_directory, reads_file, read_is}
use Rattle.call_read.proofs.read_mounted.Goals as goal

pub returns-then-not-is_live : goal.returns-then-not-is_live
returns-then-not-is_live c =
    let e = c.inode_rows.ensures in
    let live = rw (e.image, e.ids, e.spots) at c.is_live.ensures in
    λ ds h. read_is h c.args.id c.args.position c.args.buffer.now
    (reads_nothing (sym (live (placed_volume c.args.image.now ds) h.inodes) ∙ c.if-not-is_live.true) refl)

pub returns-then-is_directory_id : goal.returns-then-is_directory_id
returns-then-is_directory_id c =
    let e = c.inode_rows.ensures in
    let live = rw (e.image, e.ids, e.spots) at c.is_live.ensures in
    λ ds h. read_is h c.args.id c.args.position c.args.buffer.now
    (reads_directory (sym (live (placed_volume c.args.image.now ds) h.inodes) ∙ c.if-not-is_live.false)
    (sym c.is_directory_id.ensures ∙ c.if-is_directory_id.true) refl)

pub returns : goal.returns
returns c =
    let e = c.inode_rows.ensures in
    let b = c.block_rows.ensures in
    let live = rw (e.image, e.ids, e.spots) at c.is_live.ensures in
    let read = rw (b.image, b.ids, b.spots) at c.read_file.ensures in
    λ ds h. read_is h c.args.id c.args.position c.args.buffer.now
    (reads_file (sym (live (placed_volume c.args.image.now ds) h.inodes) ∙ c.if-not-is_live.false)
    (sym c.is_directory_id.ensures ∙ c.if-is_directory_id.false) (read (placed_volume c.args.image.now ds) h.blocks))
