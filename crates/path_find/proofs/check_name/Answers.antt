use Rattle.std.proofs.Common.{sym, ◌∙◌}
use Rattle.area_pass.specs.Bridge.{placed_volume}
use Rattle.path_walk.specs.Resolved.{only_of}
use Rattle.path_find.specs.NewName.{name_below_file, name_taken, name_free}
use Rattle.path_find.proofs.check_name.Goals as goal

pub returns-then-not-is_directory_id : goal.returns-then-not-is_directory_id
returns-then-not-is_directory_id c =
    λ ds h. name_below_file c.args.image.now ds c.args.directory c.args.name.now (sym c.is_directory_id.ensures ∙ c.if-not-is_directory_id.true)

pub returns-then-any_child : goal.returns-then-any_child
returns-then-any_child c =
    let e = c.inode_rows.ensures in
    let r = rw (e.image, e.ids, e.spots) at c.find_child-child.ensures in
    λ ds h. name_taken c.args.image.now ds c.args.directory c.args.name.now (sym c.is_directory_id.ensures ∙ c.if-not-is_directory_id.false)
    (only_of c.find_child-child.result) (r (placed_volume c.args.image.now ds) h.inodes) (sym c.any_child.ensures ∙ c.if-any_child.true)

pub returns : goal.returns
returns c =
    let e = c.inode_rows.ensures in
    let r = rw (e.image, e.ids, e.spots) at c.find_child-child.ensures in
    λ ds h. name_free c.args.image.now ds c.args.directory c.args.name.now (sym c.is_directory_id.ensures ∙ c.if-not-is_directory_id.false)
    (only_of c.find_child-child.result) (r (placed_volume c.args.image.now ds) h.inodes) (sym c.any_child.ensures ∙ c.if-any_child.false)
