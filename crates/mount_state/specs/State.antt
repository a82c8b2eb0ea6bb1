-- What a mounted volume is: where its parts stand, what the code relies on for any tables, and what the tables hold.
use Rattle.std.specs.Prelude.{ℕ, ◌+◌, ◌≤◌, ◌<◌, ◌≡◌, List, [], ◌∷◌, length, take, Result, Ok, Err}
use Rattle.format.specs.Bytes.{Bytes}
use Rattle.record_places.specs.Place.{by_place, AllLie}
use Rattle.table_rows.specs.Parts.{part}
use Rattle.table_rows.specs.Rows.{InodeTable, BlockTable, RowsOf}
use Rattle.calls.specs.Areas.{most_areas, file_areas, scratch_areas}
use Rattle.calls.specs.Mount.{most_inodes, most_blocks, most_records, mount_number}
use Rattle.calls.specs.Outcome.{code}
use Rattle.calls.specs.Report.{damage_in}
use Rattle.calls.specs.declared.Descriptor.{Descriptor}
use Rattle.calls.specs.declared.Refusal.{Refusal}
use Rattle.area_damage.specs.Damage.{damage_of}
use Rattle.area_pass.specs.Rows.{spans_at, area_rows, area_at, Tells, Small}
use Rattle.area_list.specs.Described.{described}
use Rattle.area_list.specs.Good.{AreaFits}
use Rattle.area_pass.specs.Listing.{places_in, AreasFit}
use Rattle.area_pass.specs.Bridge.{placed_volume}
use Rattle.mount_state.specs.declared.Mounted.{Mounted}

-- where the parts start
abbrev pub inode_ids_at : ℕ
inode_ids_at = area_rows

abbrev pub inode_spots_at : ℕ
inode_spots_at = inode_ids_at + most_inodes

abbrev pub block_ids_at : ℕ
block_ids_at = inode_spots_at + most_inodes

abbrev pub block_spots_at : ℕ
block_spots_at = block_ids_at + most_blocks

abbrev pub tables_size : ℕ
tables_size = block_spots_at + most_blocks

-- the parts: the columns of what stands in the tables
module _ (m : Mounted) (t : List ℕ) where
  abbrev pub starts_in : List ℕ
  starts_in = part 0 m.files t

  abbrev pub spans_in : List ℕ
  spans_in = part spans_at m.files t

  abbrev pub inode_ids_in : List ℕ
  inode_ids_in = part inode_ids_at m.inodes t

  abbrev pub inode_spots_in : List ℕ
  inode_spots_in = part inode_spots_at m.inodes t

  abbrev pub block_ids_in : List ℕ
  block_ids_in = part block_ids_at m.blocks t

  abbrev pub block_spots_in : List ℕ
  block_spots_in = part block_spots_at m.blocks t

-- what a call lends to a mount
pub record Lent (tables places : List ℕ) : Type 0 where
  pub tables_long : length tables ≡ tables_size
  pub places_long : length places ≡ most_records

-- Safety: what the code relies on to stay in bounds, for any tables, also such as hold nothing true.
pub record Safe (image : Bytes) (m : Mounted) (tables : List ℕ) : Type 0 where
  pub long : length tables ≡ tables_size
  pub some_file : 0 < m.files
  pub files_few : m.files ≤ most_areas
  pub inodes_few : m.inodes ≤ most_inodes
  pub blocks_few : m.blocks ≤ most_blocks
  pub fit : AreasFit image (starts_in m tables) (spans_in m tables)
  pub readings : (i : ℕ) → i < m.files → Small tables i
  pub scratch : AreaFits (length image) m.scratch
  pub inodes : InodeTable image (inode_ids_in m tables) (inode_spots_in m tables)
  pub blocks : BlockTable image (block_ids_in m tables) (block_spots_in m tables)

-- Meaning: these tables hold this image and area list, which mount.
pub record Holds (image : Bytes) (ds : List Descriptor) (m : Mounted) (tables : List ℕ) : Type 0 where
  pub number : mount_number image ds ≡ 0
  pub files : described (starts_in m tables) (spans_in m tables) ≡ file_areas image ds
  pub readings : (i : ℕ) → i < m.files → Tells (area_at image tables i) tables i
  pub damage : m.damage ≡ damage_of 0 (damage_in image (file_areas image ds))
  pub scratch : scratch_areas image ds ≡ m.scratch ∷ []
  pub inodes : RowsOf (by_place image) (placed_volume image ds).inodes (inode_ids_in m tables) (inode_spots_in m tables)
  pub blocks : RowsOf (by_place image) (placed_volume image ds).blocks (block_ids_in m tables) (block_spots_in m tables)

-- the same two of the places of all records, for the calls that walk them
pub record SafePlaces (image : Bytes) (m : Mounted) (places : List ℕ) : Type 0 where
  pub few : m.records ≤ length places
  pub records_few : m.records ≤ most_records
  pub lie : AllLie image places m.records

abbrev pub HoldsPlaces : Bytes → List Descriptor → Mounted → List ℕ → Type 0
HoldsPlaces image ds m places = take m.records places ≡ places_in image (file_areas image ds)

-- the lent slices hold the volume, with the places of its records
pub record Held (image : Bytes) (ds : List Descriptor) (m : Mounted) (tables places : List ℕ) : Type 0 where
  pub safe : Safe image m tables
  pub holds : Holds image ds m tables
  pub safe_places : SafePlaces image m places
  pub holds_places : HoldsPlaces image ds m places

-- what a mount answers and leaves; what the lent slices hold after a refused one has no meaning
abbrev pub Mounts : Bytes → List Descriptor → Result Mounted Refusal → List ℕ → List ℕ → Type 0
Mounts image ds (Ok m) tables places = Held image ds m tables places
Mounts image ds (Err r) tables places = code r ≡ mount_number image ds
