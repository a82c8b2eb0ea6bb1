-- Ids for new records: the smallest of their range that no accepted record names.
use Rattle.std.specs.Prelude.{ℕ, ◌*◌, ◌≢◌}
use mathlib.Core.List.{Memᴰ}
use Rattle.format.specs.Bytes.{Bytes}
use Rattle.format.specs.Record.{record_id, record_link, block_previous}
use Rattle.volume.specs.Counting.{Volume}
use Rattle.calls.specs.Areas.{most_areas, largest_image}

-- "no accepted record names as id, parent, owner or previous"
pub record Unused (v : Volume Bytes) (i : ℕ) : Type 0 where
  pub no_inode : (r : Bytes) → Memᴰ r v.inodes → record_id r ≢ i
  pub no_parent : (r : Bytes) → Memᴰ r v.inodes → record_link r ≢ i
  pub no_block : (r : Bytes) → Memᴰ r v.blocks → record_id r ≢ i
  pub no_owner : (r : Bytes) → Memᴰ r v.blocks → record_link r ≢ i
  pub no_previous : (r : Bytes) → Memᴰ r v.blocks → block_previous r ≢ i

-- ---- a volume names few ids: an area of n bytes has at most n records

-- the areas hold no more records than they have bytes; an inode names two ids and a block three
abbrev pub most_named : ℕ
most_named = most_areas * largest_image * 5
