-- `path_walk::resolve`: the walk from where it is, over the names left, ends as the whole does.
use Rattle.std.proofs.Common.{◌≡◌, length}
use Rattle.volume.specs.Counting.{Volume}
use Rattle.volume.specs.Path.{path_names}
use Rattle.volume.specs.Tree.{walk, lookup_names}
use Rattle.record_places.specs.Place.{by_place}
use Rattle.path_names.specs.Names.{names_from, Reached}
use Rattle.path_walk.specs.Resolved.{InodesOf}
use Rattle.path_walk.proofs.resolve.Given as goal

abbrev pub invariant-loop-w : goal.invariant-loop-w
invariant-loop-w l =
    Reached l.base l.path l.w
    × ((v : Volume _) → InodesOf l.rows.image.now l.rows.ids.now l.rows.spots.now v
    → walk (by_place l.rows.image.now) v l.at (names_from l.base l.path l.w) ≡ lookup_names (by_place l.rows.image.now) v (path_names l.base l.path))

abbrev pub decreases-loop-w : goal.decreases-loop-w
decreases-loop-w l = length (names_from l.base l.path l.w)
