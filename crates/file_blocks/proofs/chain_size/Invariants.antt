use Rattle.std.proofs.Common.{◌≡◌, ◌-◌, ◌*◌, ◌≤◌, length}
use Rattle.record_places.specs.Place.{by_place}
use Rattle.volume.specs.Contents.{chain_back}
use Rattle.table_rows.specs.Table.{found}
use Rattle.file_blocks.specs.Blocks.{text_size}
use Rattle.file_blocks.specs.Walk.{size_with}
use Rattle.file_blocks.proofs.chain_size.Given as goal

abbrev pub invariant-loop : goal.invariant-loop
invariant-loop l = record {
  small : l.size ≤ l.counter * 65535;
  chain : text_size (by_place l.rows.image.now) (chain_back (by_place l.rows.image.now) (found (length l.rows.ids.now) l.rows.ids.now l.rows.spots.now) l.file l.count l.start)
      ≡ size_with (by_place l.rows.image.now) l.size (chain_back (by_place l.rows.image.now) (found (length l.rows.ids.now) l.rows.ids.now l.rows.spots.now) l.file (l.count - l.counter) l.id);
}
