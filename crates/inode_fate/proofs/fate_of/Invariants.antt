-- The fate is that of the inode at which the climb is, over the steps that are left.
use Rattle.std.proofs.Common.{◌≡◌, ◌-◌, length}
use Rattle.volume.specs.Fate.{fate_within}
use Rattle.record_places.specs.Place.{by_place}
use Rattle.table_rows.specs.Table.{found}
use Rattle.inode_fate.specs.Fates.{fate_by}
use Rattle.inode_fate.proofs.fate_of.Given as goal

abbrev pub invariant-loop : goal.invariant-loop
invariant-loop l =
    fate_within (by_place l.rows.image.now) (found (length l.rows.ids.now) l.rows.ids.now l.rows.spots.now) (length l.rows.ids.now - l.counter) l.at
    ≡ fate_by (by_place l.rows.image.now) (length l.rows.ids.now) l.rows.ids.now l.rows.spots.now l.id
