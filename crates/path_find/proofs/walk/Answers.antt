use Rattle.std.proofs.Common.{◌∙◌}
use Rattle.volume.specs.Path.{path_names}
use Rattle.area_pass.specs.Bridge.{placed_volume}
use Rattle.mount_state.specs.Bridge.{names_are}
use Rattle.path_find.proofs.walk.Goals as goal

pub returns : goal.returns
returns c =
    let e = c.inode_rows.ensures in
    let r = rw (e.image, e.ids, e.spots) at c.resolve.ensures in
    λ ds h. r (placed_volume c.args.image.now ds) h.inodes
    ∙ names_are c.args.image.now ds (path_names c.args.base.now c.args.path.now)
