-- `path_walk::next_child`: the first child among the rows that are left is the first of all.
use Rattle.std.proofs.Common.{◌≡◌, ◌+◌, drop}
use Rattle.volume.specs.Counting.{Volume}
use Rattle.volume.specs.Tree.{is_child}
use Rattle.record_places.specs.Place.{by_place}
use Rattle.file_blocks.specs.Blocks.{first_of}
use Rattle.path_walk.specs.Resolved.{InodesOf}
use Rattle.path_walk.proofs.next_child.Given as goal

abbrev pub invariant-loop-row : goal.invariant-loop-row
invariant-loop-row l =
    (v : Volume _) → InodesOf l.rows.image.now l.rows.ids.now l.rows.spots.now v
    → l.from + first_of (is_child (by_place l.rows.image.now) v l.directory l.name) (drop l.from l.rows.ids.now)
    ≡ l.row + first_of (is_child (by_place l.rows.image.now) v l.directory l.name) (drop l.row l.rows.ids.now)
