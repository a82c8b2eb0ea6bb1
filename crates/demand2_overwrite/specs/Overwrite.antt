-- Overwrite in the middle. Document 02, T-05: "The range then reads as the new data, every other byte as before."
use Rattle.std.specs.Prelude.{ℕ, ◌+◌, ◌≤◌, ◌<◌, ◌≡◌, ◌≢◌, ◌⊎◌, true, false, take, drop}
use Rattle.std.proofs.Math.Option.{some}
use mathlib.Core.List.{List, [], map, Memᴰ}
use Rattle.std.proofs.Math.ListN.{length}
use Rattle.format.specs.Bytes.{Bytes, byte_at}
use Rattle.format.specs.Ids.{is_directory_id}
use Rattle.format.specs.Reading.{area_clean}
use Rattle.format.specs.Record.{record_size, record_id, record_sequence}
use Rattle.format_laws.specs.Crc.{Octets}
use Rattle.volume.specs.View.{by_bytes}
use Rattle.volume.specs.Counting.{block_of, block_ids}
use Rattle.volume.specs.Fate.{fate_of, live_ids, lineage, names_of}
use Rattle.volume.specs.Contents.{file_blocks, text_of}
use Rattle.volume.specs.Path.{good_path, path_names}
use Rattle.volume.specs.Tree.{found, lookup_names}
use Rattle.volume_laws.specs.Once.{Alike}
use Rattle.calls.specs.Areas.{area_bytes, file_areas}
use Rattle.calls.specs.Mount.{volume, mount_number}
use Rattle.calls.specs.Storing.{Store, spaces, place_all, store_all}
use Rattle.calls.specs.Attempt.{goes}
use Rattle.calls.specs.Lookup.{resolve}
use Rattle.calls.specs.Read.{given, refused, read_given, read_answer}
use Rattle.calls.specs.Rewrite.{last_sequence}
use Rattle.calls.specs.Overwrite.{Change, changes, text_after, new_version, overwriting}
use Rattle.calls.specs.Overwrite.{overwrite_image}
use Rattle.calls.specs.declared.Descriptor.{Descriptor}
use Rattle.demand2.specs.Store.{SameHeaders}
use Rattle.demand2.specs.Places.{AreaGrown, Written}
use Rattle.demand2_overwrite.specs.Blocks.{held, BlocksAfter}

-- what an accepted overwrite found
pub record OverwriteGoes (image : Bytes) (ds : List Descriptor) (base path : Bytes) (offset : ℕ) (text : Bytes) : Type 0 where
  pub mounted : mount_number image ds ≡ 0
  pub good : good_path base path ≡ true
  pub file : ℕ
  pub found_there : lookup_names by_bytes (volume image ds) (path_names base path) ≡ found file
  pub no_directory : is_directory_id file ≡ false
  pub old : List Bytes
  pub not_broken : file_blocks by_bytes (volume image ds) file ≡ some old
  -- "an offset or an end past the size is 14"
  pub within : offset + length text ≤ length (text_of by_bytes old)
  -- "such a block at sequence ffffffff is 16"
  pub not_last : (c : Change) → Memᴰ c (changes old offset text) → record_sequence c.block ≢ last_sequence
  pub stores : List Store
  pub placed : place_all (spaces image (file_areas image ds)) (map new_version (changes old offset text)) ≡ some stores
  pub image_is : overwrite_image image ds offset text file ≡ store_all image stores
  pub goes : overwriting image ds base path offset text ≡ goes file

-- ---- the theorem

-- What an accepted overwrite leaves: image' is the image afterwards
pub record AfterOverwrite (image image' : Bytes) (ds : List Descriptor) (base path : Bytes) (offset : ℕ) (text : Bytes) : Type 0 where
  pub mounts : mount_number image' ds ≡ 0
  -- the file, its blocks before, and the range "within the present size"
  pub file : ℕ
  pub found_at_path : resolve image ds base path ≡ found file
  pub old : List Bytes
  pub whole_before : file_blocks by_bytes (volume image ds) file ≡ some old
  pub within : offset + length text ≤ length (text_of by_bytes old)
  -- its blocks afterwards, in the same order, and the records written: "each block that holds a byte of the written range is rewritten with the
  -- same id, owner, previous and length, sequence plus one, and its changed data", and each that holds none is the very same record
  pub new : List Bytes
  pub whole_after : file_blocks by_bytes (volume image' ds) file ≡ some new
  pub written : List Bytes
  pub blocks_after : BlocksAfter offset (offset + length text) (text_after old offset text) 0 old new written
  pub block_ids_lem : map record_id new ≡ map record_id old
  pub block_lengths : map held new ≡ map held old
  -- "The range then reads as the new data, every other byte as before"
  pub text_after_lem : text_of by_bytes new ≡ text_after old offset text
  pub size : length (text_of by_bytes new) ≡ length (text_of by_bytes old)
  pub in_range : (j : ℕ) → j < length text → byte_at (text_of by_bytes new) (offset + j) ≡ byte_at text j
  pub out_of_range : (i : ℕ) → (i < offset) ⊎ (offset + length text ≤ i) → byte_at (text_of by_bytes new) i ≡ byte_at (text_of by_bytes old) i
  -- so does a read, at every position and with every buffer: it follows as many headers as it did before
  pub reads_all : (position room : ℕ) → position ≤ length (text_of by_bytes old)
      → read_given image' ds file position room
      ≡ given (take room (drop position (text_after old offset text))) (read_answer (read_given image ds file position room)).headers
  pub reads_none : (position room : ℕ) → length (text_of by_bytes old) < position → read_given image' ds file position room ≡ refused 14
  -- whatever was answered, by number, count of bytes and count of headers, is answered still
  pub answers : (position room : ℕ) → read_answer (read_given image' ds file position room) ≡ read_answer (read_given image ds file position room)
  -- "everything else that could be reached by path reads as before"
  pub paths : (b p : Bytes) → resolve image' ds b p ≡ resolve image ds b p
  pub reads : (i : ℕ) → i ≢ file → (position room : ℕ) → read_given image' ds i position room ≡ read_given image ds i position room
  pub contents : (f : ℕ) → f ≢ file → file_blocks by_bytes (volume image' ds) f ≡ file_blocks by_bytes (volume image ds) f
  -- the inode records are the same, in the same order
  pub inodes : (volume image' ds).inodes ≡ (volume image ds).inodes
  pub fates : (i : ℕ) → fate_of by_bytes (volume image' ds) i ≡ fate_of by_bytes (volume image ds) i
  pub live_ones : live_ids by_bytes (volume image' ds) ≡ live_ids by_bytes (volume image ds)
  pub lineages : (i : ℕ) → lineage by_bytes (volume image' ds) i ≡ lineage by_bytes (volume image ds) i
  pub names : (i : ℕ) → names_of by_bytes (volume image' ds) i ≡ names_of by_bytes (volume image ds) i
  -- the new versions count, and of every other block the record that did; no id is new, and there are as many: "5 is tested again" in vain
  pub counts : (b : Bytes) → Memᴰ b written → block_of by_bytes (volume image' ds) (record_id b) ≡ some b
  pub other_blocks : (i : ℕ) → ¬ Memᴰ i (map record_id written) → block_of by_bytes (volume image' ds) i ≡ block_of by_bytes (volume image ds) i
  pub same_ids : Alike (block_ids by_bytes (volume image' ds)) (block_ids by_bytes (volume image ds))
  pub ids : length (block_ids by_bytes (volume image' ds)) ≡ length (block_ids by_bytes (volume image ds))
  -- "0 bytes write nothing"
  pub none_written : text ≡ [] → written ≡ []
  -- "all or none, in file order": one after the other they went to the start of the free space of the first clean file area with room for each
  pub went : Written ds image written image'
  -- so that each area reads as its old records, at their places, followed by those that went there: nothing is erased
  pub areas : (d : Descriptor) → Memᴰ d ds → AreaGrown image image' d written
  -- the file areas are the same, with the headers that they had, and each is as clean as it was
  pub same_areas : file_areas image' ds ≡ file_areas image ds
  pub headers : SameHeaders image image' ds
  pub clean_after : (d : Descriptor) → Memᴰ d ds → area_clean record_size (area_bytes image' d) ≡ area_clean record_size (area_bytes image d)
  -- an image of bytes stays one, for the next call
  pub octets : Octets image → Octets image'
