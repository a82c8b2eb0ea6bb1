-- Demand 2, whole: for any image and any area list, what each call leaves.
use Rattle.std.specs.Prelude.{ℕ, ◌+◌, ◌≤◌, ◌≡◌, ◌≢◌, length}
use Rattle.std.proofs.Math.Option.{Option, some}
use mathlib.Core.List.{List, [], map, Memᴰ}
use Rattle.format.specs.Bytes.{Bytes}
use Rattle.format.specs.Record.{record_id, record_sequence}
use Rattle.format_laws.specs.Crc.{Octets}
use Rattle.volume.specs.View.{by_bytes}
use Rattle.volume.specs.Counting.{inode_of, block_of}
use Rattle.volume.specs.Contents.{file_blocks, text_of}
use Rattle.calls.specs.Mount.{volume, mount_number}
use Rattle.calls.specs.Format.{format_number, image_formatted}
use Rattle.calls.specs.Create.{create_of, image_created}
use Rattle.calls.specs.Append.{append_of, image_appended}
use Rattle.calls.specs.Unlink.{unlink_of, image_unlinked}
use Rattle.calls.specs.Rename.{rename_of, image_renamed}
use Rattle.calls.specs.Rewrite.{last_sequence}
use Rattle.calls.specs.Overwrite.{changes, text_after, new_version, overwrite_of, image_overwritten}
use Rattle.calls.specs.Collect.{collect_of, image_collected}
use Rattle.calls.specs.declared.Descriptor.{Descriptor}
use Rattle.demand2.specs.Format.{AfterFormat}
use Rattle.demand2.specs.Create.{AfterCreate}
use Rattle.demand2.specs.Append.{AfterAppend}
use Rattle.demand2.specs.Unlink.{AfterUnlink}
use Rattle.demand2_rename.specs.Rename.{AfterRename}
use Rattle.demand2_overwrite.specs.Blocks.{Holder, BlocksAfter}
use Rattle.demand2_overwrite.specs.Overwrite.{AfterOverwrite}
use Rattle.demand2.specs.Refused.{RefusedCalls}
use Rattle.demand2_collect.specs.Collect.{AfterCollect}

-- r is one of the records rs, bears the id i, and none of that id has a greater sequence
pub record Greatest (rs : List Bytes) (i : ℕ) (r : Bytes) : Type 0 where
  pub there : Memᴰ r rs
  pub own_id_lem : record_id r ≡ i
  pub top : (s : Bytes) → Memᴰ s rs → record_id s ≡ i → record_sequence s ≤ record_sequence r

-- c says of each id which of the records rs counts. The mount's number tells whether check 6 lets no two of one sequence stand.
pub record GreatestCounts (mount : ℕ) (rs : List Bytes) (c : ℕ → Option Bytes) : Type 0 where
  -- what counts is such a record, and where any record bears the id, one counts
  pub greatest : (i : ℕ) (r : Bytes) → c i ≡ some r → Greatest rs i r
  pub each : (r : Bytes) → Memᴰ r rs → (s : Bytes) × (c (record_id r) ≡ some s)
  -- and of a volume that mounts exactly that record
  pub exactly : mount ≡ 0 → (i : ℕ) (r : Bytes) → Greatest rs i r → c i ≡ some r

pub record Demand2 (image : Bytes) (ds : List Descriptor) : Type 0 where
  -- "for each object the greatest sequence number counts"
  pub inodes : GreatestCounts (mount_number image ds) (volume image ds).inodes (inode_of by_bytes (volume image ds))
  pub blocks : GreatestCounts (mount_number image ds) (volume image ds).blocks (block_of by_bytes (volume image ds))
  -- "After an append the file reads as its old contents and then the new data. Creating, unlinking and collecting do what is written there,
  -- and everything else that could be reached by path reads as before": of each accepted call; names, data and image are bytes
  pub formats : format_number image ds ≡ 0 → AfterFormat image (image_formatted image ds) ds
  pub creates : (base path : Bytes) (kind : ℕ) → Octets base → Octets path → (create_of image ds base path kind).number ≡ 0
      → AfterCreate image (image_created image ds base path kind) ds base path kind (create_of image ds base path kind).id
  pub appends : (base path text : Bytes) → Octets text → append_of image ds base path text ≡ 0
      → AfterAppend image (image_appended image ds base path text) ds base path text
  -- "0 bytes write nothing"
  pub appends_nothing : (base path : Bytes) → image_appended image ds base path [] ≡ image
  pub unlinks : (base path : Bytes) → Octets image → unlink_of image ds base path ≡ 0
      → AfterUnlink image (image_unlinked image ds base path) ds base path
  -- document 02, T-01: "Everything that isn't the moved object or below it keeps its path and contents. The moved file keeps its contents."
  pub renames : (base old new : Bytes) → Octets image → Octets base → Octets new → rename_of image ds base old new ≡ 0
      → AfterRename image (image_renamed image ds base old new) ds base old new
  -- document 02, T-05: "The range then reads as the new data, every other byte as before", and "0 bytes write nothing"
  pub overwrites : (base path : Bytes) (offset : ℕ) (text : Bytes) → Octets image → Octets text → overwrite_of image ds base path offset text ≡ 0
      → AfterOverwrite image (image_overwritten image ds base path offset text) ds base path offset text
  pub overwrites_nothing : (base path : Bytes) (offset : ℕ) → image_overwritten image ds base path offset [] ≡ image
  -- the records for which an overwrite must find room, or be refused by 15, are those of `BlocksAfter`: of every whole file and every range within its
  -- size, no block of which is at the last sequence
  pub overwrites_need : (f : ℕ) (old : List Bytes) (offset : ℕ) (text : Bytes) → Octets image → Octets text
      → file_blocks by_bytes (volume image ds) f ≡ some old → offset + length text ≤ length (text_of by_bytes old)
      → ((b : Bytes) → Holder offset (offset + length text) 0 old b → record_sequence b ≢ last_sequence)
      → (new : List Bytes) × BlocksAfter offset (offset + length text) (text_after old offset text) 0 old new (map new_version (changes old offset text))
  pub collects : collect_of image ds ≡ 0 → AfterCollect image (image_collected image ds) ds
  -- and of each refused one
  pub refused : RefusedCalls image ds
