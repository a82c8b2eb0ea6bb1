use Rattle.std.proofs.Common.{◌∙◌}
use Rattle.volume.specs.Path.{path_names}
use Rattle.calls.specs.Create.{names_before}
use Rattle.area_pass.specs.Bridge.{placed_volume}
use Rattle.mount_state.specs.Bridge.{names_are}
use Rattle.path_find.specs.Below.{below_named, not_below_lem}
use Rattle.path_find.specs.Parent.{below_any}
use Rattle.path_find.proofs.find_parent.Goals as goal

pub returns-then-not-is_below_root-clause-means : goal.returns-then-not-is_below_root-clause-means
returns-then-not-is_below_root-clause-means c =
    λ ds h. rw (not_below_lem c.args.base.now c.args.path.now c.is_below_root.result c.is_below_root.ensures c.if-not-is_below_root.true)

pub returns-clause-means : goal.returns-clause-means
returns-clause-means c =
    let b = below_named c.args.base.now c.args.path.now c.is_below_root.result c.is_below_root.ensures c.if-not-is_below_root.false in
    let e = c.inode_rows.ensures in
    let r = rw (e.image, e.ids, e.spots) at c.walk_before.ensures in
    λ ds h. rw b.0
    (r (placed_volume c.args.image.now ds) h.inodes
    ∙ names_are c.args.image.now ds (names_before (path_names c.args.base.now c.args.path.now)))

pub returns-clause-good : goal.returns-clause-good
returns-clause-good c =
    let b = below_named c.args.base.now c.args.path.now c.is_below_root.result c.is_below_root.ensures c.if-not-is_below_root.false in
    below_any c.args.base.now c.args.path.now c.walk_before.result b.1 b.2

pub walk_before-requires-clause-path_value : goal.walk_before-requires-clause-path_value
walk_before-requires-clause-path_value c =
    (below_named c.args.base.now c.args.path.now c.is_below_root.result c.is_below_root.ensures c.if-not-is_below_root.false).1

pub walk_before-requires-clause-path_value_2 : goal.walk_before-requires-clause-path_value_2
walk_before-requires-clause-path_value_2 c =
    (below_named c.args.base.now c.args.path.now c.is_below_root.result c.is_below_root.ensures c.if-not-is_below_root.false).2
