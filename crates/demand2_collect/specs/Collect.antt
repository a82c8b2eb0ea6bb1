-- Collect. Demand 2: "Creating, unlinking and collecting do what is written there, and everything else that could be reached by path reads as
-- before." Document 01, "Beliefs that bring stale data back", 1: "an older inode in another area returns".
use Rattle.std.specs.Prelude.{ℕ, ◌⊎◌, ◌≢◌, ◌↔◌, true, length}
use Rattle.std.proofs.Math.Path.{◌≡◌}
use Rattle.std.proofs.Math.Option.{none, some}
use mathlib.Core.List.{List, [], ◌∷◌, Memᴰ}
use Rattle.format.specs.Bytes.{Bytes, byte_at}
use Rattle.format.specs.AreaHeader.{area_id, scratch_id}
use Rattle.format.specs.Record.{record_size, record_id, record_link}
use Rattle.format.specs.Reading.{area_clean}
use Rattle.format_laws.specs.Crc.{Octets}
use Rattle.volume.specs.View.{by_bytes}
use Rattle.volume.specs.Counting.{inode_of, block_of}
use Rattle.volume.specs.Fate.{live, dead, fate_of, block_dead}
use Rattle.volume.specs.Contents.{file_blocks}
use Rattle.calls.specs.Areas.{area_bytes, file_areas, scratch_areas}
use Rattle.calls.specs.Mount.{records_of, bytes_of, accepted_records, volume}
use Rattle.calls.specs.Mount.{mount_number}
use Rattle.calls.specs.Format.{empty_area}
use Rattle.calls.specs.Lookup.{resolve}
use Rattle.calls.specs.Read.{read_given}
use Rattle.calls.specs.Collect.{eligible, count_of, source_of, records_elsewhere, copies, copied_records, next_count}
use Rattle.calls.specs.declared.Descriptor.{Descriptor}
use Rattle.calls_laws.specs.Checks.{InArea}
use Rattle.image_laws.specs.Stores.{joined_bytes}
use Rattle.collect_laws.specs.Source.{IsSource}
use Rattle.collect_laws.specs.Stores.{filled_scratch}

-- ---- the theorem

-- What an accepted collect leaves: image' is the image afterwards
pub record AfterCollect (image image' : Bytes) (ds : List Descriptor) : Type 0 where
  pub mounts : mount_number image' ds ≡ 0
  -- T-14: "The source area is the first eligible one (as long as scratch), in descriptor order, that no eligible area precedes; if there is none, .."
  pub scratch : Descriptor
  pub source : Descriptor
  pub was_scratch : scratch_areas image ds ≡ scratch ∷ []
  pub chosen : source_of image (file_areas image ds) scratch ≡ some source
  pub was_file : Memᴰ source (file_areas image ds)
  pub as_long : source.length ≡ scratch.length
  pub is_source : IsSource image (eligible (file_areas image ds) scratch) source
  -- "Scratch takes the source's id" and keeps its own count; "the counting records that lie in the source are copied ..": header, copies, FF
  pub now_file : Memᴰ scratch (file_areas image' ds)
  pub takes_id : area_id (area_bytes image' scratch) ≡ area_id (area_bytes image source)
  pub keeps_count : count_of image' scratch ≡ count_of image scratch
  pub filled : area_bytes image' scratch
      ≡ filled_scratch image scratch (area_id (area_bytes image source)) (joined_bytes (copied_records image ds source))
  pub copied : bytes_of (records_of image' scratch)
      ≡ copies (volume image ds) (bytes_of (records_of image source)) (records_elsewhere image (file_areas image ds) source)
  pub clean : area_clean record_size (area_bytes image' scratch) ≡ true
  -- "the source is erased and becomes scratch with its count plus one (255 goes to 0)"
  pub now_scratch : scratch_areas image' ds ≡ source ∷ []
  pub emptied : area_bytes image' source ≡ empty_area source.length (next_count (count_of image source)) scratch_id
  -- the file areas are those before with scratch in the place of the source, and each other one has the bytes that it had
  pub files : (d : Descriptor) → Memᴰ d (file_areas image' ds) ↔ ((d ≡ scratch) ⊎ (Memᴰ d (file_areas image ds) × (d ≢ source)))
  pub elsewhere : (d : Descriptor) → Memᴰ d ds → d ≢ scratch → d ≢ source → area_bytes image' d ≡ area_bytes image d
  -- so that one that was clean still is
  pub stays_clean : (d : Descriptor) → Memᴰ d (file_areas image' ds) → (d ≢ scratch → area_clean record_size (area_bytes image d) ≡ true)
      → area_clean record_size (area_bytes image' d) ≡ true
  -- no other byte is changed, and bytes stay bytes
  pub one_length : length image' ≡ length image
  pub outside : (i : ℕ) → ¬ InArea scratch i → ¬ InArea source i → byte_at image' i ≡ byte_at image i
  pub octets : Octets image → Octets image'
  -- no record is new
  pub fewer : (b : Bytes) → Memᴰ b (accepted_records image' ds) → Memᴰ b (accepted_records image ds)
  -- exactly what was live is live, with the same counting record: its number, parent and name
  pub lives : (i : ℕ) → fate_of by_bytes (volume image ds) i ≡ live
      → (fate_of by_bytes (volume image' ds) i ≡ live) × (inode_of by_bytes (volume image' ds) i ≡ inode_of by_bytes (volume image ds) i)
  pub no_new_life : (i : ℕ) → fate_of by_bytes (volume image' ds) i ≡ live → fate_of by_bytes (volume image ds) i ≡ live
  -- an inode is as it was, or it was dead and has no record any more
  pub inodes : (i : ℕ)
      → ((inode_of by_bytes (volume image' ds) i ≡ inode_of by_bytes (volume image ds) i)
      × (fate_of by_bytes (volume image' ds) i ≡ fate_of by_bytes (volume image ds) i))
      ⊎ ((fate_of by_bytes (volume image ds) i ≡ dead) × (inode_of by_bytes (volume image' ds) i ≡ none))
  -- a block id has the counting record that it had, or its block was dead and it has none any more
  pub blocks : (i : ℕ)
      → (block_of by_bytes (volume image' ds) i ≡ block_of by_bytes (volume image ds) i)
      ⊎ (((r : Bytes) × (block_of by_bytes (volume image ds) i ≡ some r) × (block_dead by_bytes (volume image ds) r ≡ true))
      × (block_of by_bytes (volume image' ds) i ≡ none))
  -- "A dead inode isn't copied if no accepted record .. names its id": an inode that has no record any more was no other's parent and owned no block
  pub unnamed : (i : ℕ) → inode_of by_bytes (volume image ds) i ≢ none → inode_of by_bytes (volume image' ds) i ≡ none
      → (b : Bytes) → Memᴰ b (accepted_records image ds) → record_link b ≡ i → record_id b ≡ i
  pub unowned : (i : ℕ) → inode_of by_bytes (volume image ds) i ≢ none → inode_of by_bytes (volume image' ds) i ≡ none
      → (b : Bytes) → Memᴰ b (volume image ds).blocks → by_bytes.owner b ≢ i
  -- and it is left out wherever no accepted record names its id "as id, parent or owner, its own records in the source area apart"
  pub inode_left_out : (i : ℕ) → fate_of by_bytes (volume image ds) i ≡ dead
      → ((b : Bytes) → Memᴰ b (records_elsewhere image (file_areas image ds) source) → (record_id b ≢ i) × (record_link b ≢ i))
      → ((b : Bytes) → Memᴰ b (bytes_of (records_of image source)) → record_link b ≡ i → record_id b ≡ i)
      → inode_of by_bytes (volume image' ds) i ≡ none
  -- "A dead block isn't copied if no other file area has a record of its id"
  pub block_left_out : (i : ℕ) (r : Bytes) → block_of by_bytes (volume image ds) i ≡ some r → block_dead by_bytes (volume image ds) r ≡ true
      → ((b : Bytes) → Memᴰ b (records_elsewhere image (file_areas image ds) source) → record_id b ≢ i)
      → block_of by_bytes (volume image' ds) i ≡ none
  -- a file that was not dead has the blocks that it had, or is broken as it was
  pub contents : (f : ℕ) → fate_of by_bytes (volume image ds) f ≢ dead
      → file_blocks by_bytes (volume image' ds) f ≡ file_blocks by_bytes (volume image ds) f
  -- "everything else that could be reached by path reads as before": every path and every read is answered as before
  pub paths : (b p : Bytes) → resolve image' ds b p ≡ resolve image ds b p
  pub reads : (i position room : ℕ) → read_given image' ds i position room ≡ read_given image ds i position room
