-- `path_find::walk_before`: the walk from where it is, over the names left but the last, ends as the whole does.
use Rattle.std.proofs.Common.{ℕ, length}
use Rattle.volume.specs.Counting.{Volume}
use Rattle.record_places.specs.Place.{by_place}
use Rattle.path_names.specs.Names.{names_from}
use Rattle.path_walk.specs.Resolved.{InodesOf}
use Rattle.path_find.specs.Parent.{Toward, Along}
use Rattle.path_find.proofs.walk_before.Given as goal

abbrev pub invariant-loop-w : goal.invariant-loop-w
invariant-loop-w l =
    Toward l.base l.path l.w × ((v : Volume ℕ) → InodesOf l.rows.image.now l.rows.ids.now l.rows.spots.now v → Along (by_place l.rows.image.now) v l.base l.path l.w l.at)

abbrev pub decreases-loop-w : goal.decreases-loop-w
decreases-loop-w l = length (names_from l.base l.path l.w)
