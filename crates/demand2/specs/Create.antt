-- Create. Demand 2: "Creating .. do[es] what is written there, and everything else that could be reached by path reads as before."
use Rattle.std.specs.Prelude.{ℕ, suc, ◌≤◌, ◌<◌, ◌≡◌, ◌≢◌}
use Rattle.std.proofs.Math.Bool.{true, cond}
use Rattle.std.proofs.Math.Option.{some}
use mathlib.Core.List.{List, [], ◌∷◌, ◌++◌, Memᴰ}
use Rattle.std.proofs.Math.ListN.{length}
use Rattle.std.proofs.Math.Dec.{eqb}
use Rattle.format.specs.Bytes.{Bytes}
use Rattle.format.specs.Ids.{is_directory_id, is_inode_id}
use Rattle.format.specs.Record.{record_size}
use Rattle.format.specs.Reading.{area_clean}
use Rattle.format.specs.Encoding.{inode_bytes}
use Rattle.format_laws.specs.Crc.{Octets}
use Rattle.volume.specs.View.{by_bytes}
use Rattle.volume.specs.Counting.{inode_of, inode_ids}
use Rattle.volume.specs.Path.{good_path, path_names}
use Rattle.volume.specs.Tree.{found, absent, children, lookup_names}
use Rattle.volume.specs.Fate.{live, fate_of}
use Rattle.volume.specs.Contents.{file_blocks}
use Rattle.calls.specs.Areas.{area_bytes, file_areas}
use Rattle.calls.specs.Mount.{most_inodes, volume, mount_number}
use Rattle.calls.specs.Storing.{Store, spaces, place_all, named_ids}
use Rattle.calls.specs.Attempt.{goes}
use Rattle.calls.specs.Create.{last_name, names_before, first_id_of, new_inode, creating}
use Rattle.calls.specs.declared.Descriptor.{Descriptor}
use Rattle.calls.specs.Lookup.{resolve}
use Rattle.calls.specs.Read.{given, refused, read_given}
use Rattle.demand2.specs.Store.{OneStored}
use Rattle.calls_laws.specs.Unused.{Smallest}
use Rattle.demand2.specs.Unused.{Unused}
use Rattle.demand2.specs.NewRecord.{WrittenOne}

-- what an accepted create found
pub record CreateGoes (image : Bytes) (ds : List Descriptor) (base path : Bytes) (kind : ℕ) : Type 0 where
  pub mounted : mount_number image ds ≡ 0
  pub good : good_path base path ≡ true
  pub named : length (path_names base path) ≢ 0
  pub directory : ℕ
  pub found_there : lookup_names by_bytes (volume image ds) (names_before (path_names base path)) ≡ found directory
  pub is_directory : is_directory_id directory ≡ true
  pub name_free : length (children by_bytes (volume image ds) directory (last_name (path_names base path))) ≡ 0
  pub few : suc (length (inode_ids by_bytes (volume image ds))) ≤ most_inodes
  pub stores : List Store
  pub placed : place_all (spaces image (file_areas image ds)) (new_inode (volume image ds) kind directory (last_name (path_names base path)) ∷ [])
      ≡ some stores
  pub goes : creating image ds base path kind ≡ goes directory

-- ---- the theorem

-- What an accepted create leaves: image' is the image afterwards, id the new inode's
pub record AfterCreate (image image' : Bytes) (ds : List Descriptor) (base path : Bytes) (kind id : ℕ) : Type 0 where
  pub mounts : mount_number image' ds ≡ 0
  -- "the smallest id of their range that no accepted record names as id, parent, owner or previous"
  pub smallest : Smallest (first_id_of kind) (named_ids (volume image ds)) id
  pub unused : Unused (volume image ds) id
  pub least : (j : ℕ) → first_id_of kind ≤ j → j < id → ¬ Unused (volume image ds) j
  -- "Create is told file or directory"
  pub an_inode : is_inode_id id ≡ true
  pub of_kind : is_directory_id id ≡ eqb kind 0
  -- it is live, found at its path, and empty
  pub lives : fate_of by_bytes (volume image' ds) id ≡ live
  pub found_at_path : resolve image' ds base path ≡ found id
  pub found_at_names : (b p : Bytes) → good_path b p ≡ true → path_names b p ≡ path_names base path → resolve image' ds b p ≡ found id
  pub empty : file_blocks by_bytes (volume image' ds) id ≡ some []
  -- a new file gives no byte at position 0 and is refused by 14 after it, whatever the room; a new directory is refused by 11
  pub reads_new : (position room : ℕ) → read_given image' ds id position room
      ≡ cond (eqb kind 0) (refused 11) (cond (eqb position 0) (given [] 0) (refused 14))
  -- "everything else that could be reached by path reads as before": a path that was found finds the same, one refused by another
  -- number than 9 is refused by that number still, and every read of another inode answers alike
  pub paths : (b p : Bytes) → resolve image ds b p ≢ absent 9 → resolve image' ds b p ≡ resolve image ds b p
  -- and one refused by 9 is so still, unless its names begin with the created ones
  pub elsewhere : (b p : Bytes) → ((ns : List Bytes) → path_names b p ≢ path_names base path ++ ns) → resolve image' ds b p ≡ resolve image ds b p
  -- below the new directory nothing is found (9), and the new file is no directory (11)
  pub below : (b p n : Bytes) (ns : List Bytes) → good_path b p ≡ true → path_names b p ≡ path_names base path ++ (n ∷ ns)
      → resolve image' ds b p ≡ absent (cond (eqb kind 0) 9 11)
  pub reads : (i : ℕ) → i ≢ id → (position room : ℕ) → read_given image' ds i position room ≡ read_given image ds i position room
  pub inodes : (i : ℕ) → i ≢ id → inode_of by_bytes (volume image' ds) i ≡ inode_of by_bytes (volume image ds) i
  pub fates : (i : ℕ) → i ≢ id → fate_of by_bytes (volume image' ds) i ≡ fate_of by_bytes (volume image ds) i
  pub contents : (f : ℕ) → file_blocks by_bytes (volume image' ds) f ≡ file_blocks by_bytes (volume image ds) f
  -- the record, below the directory that was found, and the clean file area that it went to: no other byte is changed, that area
  -- reads as its old records followed by this one, and every other as before
  pub directory : ℕ
  pub above : lookup_names by_bytes (volume image ds) (names_before (path_names base path)) ≡ found directory
  pub counts : inode_of by_bytes (volume image' ds) id ≡ some (inode_bytes id 0 directory (last_name (path_names base path)))
  pub went : WrittenOne image image' ds (inode_bytes id 0 directory (last_name (path_names base path)))
  pub stored : OneStored image image' ds went.area (inode_bytes id 0 directory (last_name (path_names base path)))
  -- the file areas are the same, and each is as clean as it was
  pub same_areas : file_areas image' ds ≡ file_areas image ds
  pub clean_after : (d : Descriptor) → Memᴰ d ds → area_clean record_size (area_bytes image' d) ≡ area_clean record_size (area_bytes image d)
  -- an image of bytes stays one, for the next call
  pub octets : Octets image → Octets image'
