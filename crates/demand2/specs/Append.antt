-- Append. Demand 2: "After an append the file reads as its old contents and then the new data."
use Rattle.std.specs.Prelude.{ℕ, ◌+◌, ◌≤◌, ◌<◌, ◌≢◌, ◌⊎◌, true, false, cond, take, drop}
use Rattle.std.proofs.Math.Path.{◌≡◌}
use Rattle.std.proofs.Math.Option.{some}
use mathlib.Core.List.{List, [], ◌∷◌, ◌++◌, map, Memᴰ}
use Rattle.std.proofs.Math.ListN.{length}
use Rattle.std.proofs.Math.Dec.{eqb}
use Rattle.format.specs.Bytes.{Bytes}
use Rattle.format.specs.Ids.{first_block_id, is_directory_id}
use Rattle.format.specs.Reading.{area_clean}
use Rattle.format.specs.Record.{record_size, record_id}
use Rattle.format.specs.BlockSize.{greatest_block}
use Rattle.format_laws.specs.Crc.{Octets}
use Rattle.volume.specs.View.{by_bytes}
use Rattle.volume.specs.Counting.{inode_of, block_ids}
use Rattle.volume.specs.Fate.{fate_of}
use Rattle.volume.specs.Contents.{file_blocks, text_of, headers_from}
use Rattle.volume.specs.Path.{good_path, path_names}
use Rattle.volume.specs.Tree.{found, lookup_names}
use Rattle.calls.specs.Areas.{area_bytes, file_areas}
use Rattle.calls.specs.Mount.{most_blocks, volume, mount_number}
use Rattle.calls.specs.Storing.{Store, spaces, place_all, named_ids}
use Rattle.calls.specs.Attempt.{goes}
use Rattle.calls.specs.Append.{shortest_length, new_blocks}
use Rattle.calls.specs.Append.{attempt_text, appending}
use Rattle.calls.specs.declared.Descriptor.{Descriptor}
use Rattle.calls.specs.Lookup.{resolve}
use Rattle.calls.specs.Read.{given, refused, read_given}
use Rattle.demand2.specs.Store.{SameHeaders}
use Rattle.demand2.specs.Places.{AreaGrown, Written}
use Rattle.demand2.specs.Unused.{Unused}
use Rattle.demand2.specs.Cut.{Sized}
use Rattle.demand2.specs.Pieces.{Chained, last_id}

-- what a text for what a path leads to has passed, whatever the checks of the call: an append, and document 02's overwrite
pub record TextGoes (image : Bytes) (ds : List Descriptor) (base path text : Bytes) (checks : ℕ → ℕ) : Type 0 where
  pub mounted : mount_number image ds ≡ 0
  pub good : good_path base path ≡ true
  pub file : ℕ
  pub found_there : lookup_names by_bytes (volume image ds) (path_names base path) ≡ found file
  pub checked : checks file ≡ 0
  pub goes_on : attempt_text image ds base path text checks ≡ goes file

-- what an accepted append found
pub record AppendGoes (image : Bytes) (ds : List Descriptor) (base path text : Bytes) : Type 0 where
  pub mounted : mount_number image ds ≡ 0
  pub good : good_path base path ≡ true
  pub file : ℕ
  pub found_there : lookup_names by_bytes (volume image ds) (path_names base path) ≡ found file
  pub no_directory : is_directory_id file ≡ false
  pub old : List Bytes
  pub not_broken : file_blocks by_bytes (volume image ds) file ≡ some old
  pub few : length (block_ids by_bytes (volume image ds)) + length (new_blocks image ds file text) ≤ most_blocks
  pub stores : List Store
  pub placed : place_all (spaces image (file_areas image ds)) (new_blocks image ds file text) ≡ some stores
  pub goes : appending image ds base path text ≡ goes file

-- ---- the theorem

-- What an accepted append leaves: image' is the image afterwards
pub record AfterAppend (image image' : Bytes) (ds : List Descriptor) (base path text : Bytes) : Type 0 where
  pub mounts : mount_number image' ds ≡ 0
  -- the file, whose blocks were old, and its new blocks
  pub file : ℕ
  pub found_at_path : resolve image ds base path ≡ found file
  pub old : List Bytes
  pub whole_before : file_blocks by_bytes (volume image ds) file ≡ some old
  pub whole_after : file_blocks by_bytes (volume image' ds) file ≡ some (old ++ new_blocks image ds file text)
  -- "After an append the file reads as its old contents and then the new data": at every position and with every buffer. Headers are followed
  -- back to the block of the first byte given, "0 if no byte is given"
  pub text_after_lem : text_of by_bytes (old ++ new_blocks image ds file text) ≡ text_of by_bytes old ++ text
  pub reads_both : (position room : ℕ) → position ≤ length (text_of by_bytes old ++ text)
      → read_given image' ds file position room
      ≡ given (take room (drop position (text_of by_bytes old ++ text)))
      (cond (eqb (length (take room (drop position (text_of by_bytes old ++ text)))) 0) 0
      (headers_from by_bytes position (old ++ new_blocks image ds file text)))
  pub reads_none : (position room : ℕ) → length (text_of by_bytes old ++ text) < position → read_given image' ds file position room ≡ refused 14
  -- "everything else that could be reached by path reads as before"
  pub paths : (b p : Bytes) → resolve image' ds b p ≡ resolve image ds b p
  pub reads : (i : ℕ) → i ≢ file → (position room : ℕ) → read_given image' ds i position room ≡ read_given image ds i position room
  pub inodes : (i : ℕ) → inode_of by_bytes (volume image' ds) i ≡ inode_of by_bytes (volume image ds) i
  pub fates : (i : ℕ) → fate_of by_bytes (volume image' ds) i ≡ fate_of by_bytes (volume image ds) i
  pub contents : (f : ℕ) → f ≢ file → file_blocks by_bytes (volume image' ds) f ≡ file_blocks by_bytes (volume image ds) f
  -- each new record bears an id that no record named, and a smaller one of the range was named by a record or taken by a piece before
  pub unused : (b : Bytes) → Memᴰ b (new_blocks image ds file text) → Unused (volume image ds) (record_id b)
  pub least : (before behind : List Bytes) (b : Bytes) → new_blocks image ds file text ≡ before ++ (b ∷ behind)
      → (j : ℕ) → first_block_id ≤ j → j < record_id b
      → (¬ Unused (volume image ds) j) ⊎ ((c : Bytes) × Memᴰ c before × (record_id c ≡ j))
  -- "the smallest id", piece by piece, "each naming the one before": the first names the file's last old block, NONE where there was none
  pub chained : Chained file (named_ids (volume image ds)) (last_id old) (new_blocks image ds file text)
  -- "pieces of the greatest block size, the last one shorter"; "0 bytes write nothing"
  pub sizes : Sized (greatest_block (shortest_length (file_areas image ds))) (map by_bytes.text (new_blocks image ds file text))
  pub no_pieces : text ≡ [] → new_blocks image ds file text ≡ []
  -- one after the other they went to the start of the free space of the first clean file area with room for each
  pub went : Written ds image (new_blocks image ds file text) image'
  -- so that each area reads as its old records followed by those that went there
  pub areas : (d : Descriptor) → Memᴰ d ds → AreaGrown image image' d (new_blocks image ds file text)
  -- the file areas are the same, with the headers that they had, and each is as clean as it was
  pub same_areas : file_areas image' ds ≡ file_areas image ds
  pub headers : SameHeaders image image' ds
  pub clean_after : (d : Descriptor) → Memᴰ d ds → area_clean record_size (area_bytes image' d) ≡ area_clean record_size (area_bytes image d)
  -- an image of bytes stays one, for the next call
  pub octets : Octets image → Octets image'
