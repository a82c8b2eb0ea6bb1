-- The inode is sought from where the climb is, over the steps that are left.
use Rattle.std.proofs.Common.{◌≡◌, ◌-◌, length}
use Rattle.volume_laws.specs.Climb.{chain_within}
use Rattle.record_places.specs.Place.{by_place}
use Rattle.calls.specs.Storing.{is_among}
use Rattle.table_rows.specs.Table.{found}
use Rattle.inode_lineage.specs.Lineage.{lineage_by}
use Rattle.inode_lineage.proofs.in_lineage.Given as goal

abbrev pub invariant-loop : goal.invariant-loop
invariant-loop l =
    is_among l.sought (chain_within (by_place l.rows.image.now) (found (length l.rows.ids.now) l.rows.ids.now l.rows.spots.now) (length l.rows.ids.now - l.counter) l.at)
    ≡ is_among l.sought (lineage_by (by_place l.rows.image.now) (length l.rows.ids.now) l.rows.ids.now l.rows.spots.now l.id)
