-- Rename and move. Document 02, T-01: "the inode is rewritten with the same id, sequence plus one, and the new parent and name".
use Rattle.std.specs.Prelude.{ℕ, suc, ◌≡◌, ◌≢◌, true, length}
use Rattle.std.proofs.Math.Bool.{false}
use Rattle.std.proofs.Math.Option.{some}
use mathlib.Core.List.{List, ◌∷◌, ◌++◌, Memᴰ}
use Rattle.format.specs.Bytes.{Bytes}
use Rattle.format.specs.Ids.{root_id, is_directory_id}
use Rattle.format.specs.Reading.{area_clean}
use Rattle.format.specs.Record.{record_size}
use Rattle.format_laws.specs.Crc.{Octets}
use Rattle.volume.specs.View.{by_bytes}
use Rattle.volume.specs.Counting.{inode_of, inode_ids}
use Rattle.volume.specs.Fate.{fate_of, live_ids, lineage, names_of}
use Rattle.volume.specs.Contents.{file_blocks}
use Rattle.volume.specs.Path.{good_path, path_names}
use Rattle.volume.specs.Tree.{found, absent, children, lookup_names}
use Rattle.calls.specs.Areas.{area_bytes, file_areas}
use Rattle.calls.specs.Mount.{volume, mount_number}
use Rattle.calls.specs.Storing.{Store}
use Rattle.calls.specs.Create.{last_name, names_before}
use Rattle.calls.specs.Lookup.{resolve}
use Rattle.calls.specs.Read.{read_given}
use Rattle.calls.specs.Rewrite.{last_sequence, sequence_of, rewritten, rewrite_plan}
use Rattle.calls.specs.Attempt.{goes}
use Rattle.calls.specs.Rename.{moving, renaming}
use Rattle.calls.specs.declared.Descriptor.{Descriptor}
use Rattle.demand2.specs.Store.{OneStored}
use Rattle.demand2.specs.NewRecord.{IsInode, WrittenOne}

-- what an accepted rename found
pub record RenameGoes (image : Bytes) (ds : List Descriptor) (base old new : Bytes) : Type 0 where
  pub mounted : mount_number image ds ≡ 0
  pub good_old : good_path base old ≡ true
  pub good_new : good_path base new ≡ true
  -- "A new path '/' is 8"
  pub named : length (path_names base new) ≢ 0
  -- the inode at the old path
  pub inode : ℕ
  pub found_there : lookup_names by_bytes (volume image ds) (path_names base old) ≡ found inode
  -- the directory above the new one: "the new parent being a file is 11"
  pub directory : ℕ
  pub found_above : lookup_names by_bytes (volume image ds) (names_before (path_names base new)) ≡ found directory
  pub is_directory : is_directory_id directory ≡ true
  -- "the new name being there is 12"
  pub name_free : length (children by_bytes (volume image ds) directory (last_name (path_names base new))) ≡ 0
  -- "Moving a directory below itself, or the root, gets a new number, 18"
  pub no_root_lem : inode ≢ root_id
  pub outside : ¬ Memᴰ inode (lineage by_bytes (volume image ds) directory)
  -- 16 and 15: a sequence and a place are left
  pub not_last : sequence_of (inode_of by_bytes (volume image ds) inode) ≢ last_sequence
  pub stores : List Store
  pub placed : rewrite_plan image ds inode directory (last_name (path_names base new)) ≡ some stores
  -- it goes with these
  pub moves : moving image ds (path_names base new) inode ≡ goes directory
  pub goes : renaming image ds base old new ≡ goes inode

-- ---- the theorem

-- What an accepted rename leaves: image' is the image afterwards. An inode is the moved one or below it when that one is in its lineage.
pub record AfterRename (image image' : Bytes) (ds : List Descriptor) (base old new : Bytes) : Type 0 where
  pub mounts : mount_number image' ds ≡ 0
  -- the inode at the old path, and the directory above the new one
  pub inode : ℕ
  pub found_at_old : resolve image ds base old ≡ found inode
  pub directory : ℕ
  pub above : lookup_names by_bytes (volume image ds) (names_before (path_names base new)) ≡ found directory
  -- "Moving a directory below itself, or the root" and "the new name being there" are refused: neither path begins with the other
  pub new_apart : (ns : List Bytes) → path_names base new ≢ path_names base old ++ ns
  pub old_apart : (ns : List Bytes) → path_names base old ≢ path_names base new ++ ns
  -- every good path at or below the new one, which found nothing, answers what the same rest below the old one answered, whatever the answer;
  -- where the new names are longer than the old ones, what lies deep below may have no good path any more (it is read by its id as before)
  pub was_free : (b p : Bytes) (ns : List Bytes) → good_path b p ≡ true → path_names b p ≡ path_names base new ++ ns → resolve image ds b p ≡ absent 9
  pub at_new : (b p : Bytes) (ns : List Bytes) → good_path b p ≡ true → path_names b p ≡ path_names base new ++ ns
      → resolve image' ds b p ≡ lookup_names by_bytes (volume image ds) (path_names base old ++ ns)
  pub found_at_new : resolve image' ds base new ≡ found inode
  -- every path at or below the old one finds nothing
  pub old_gone : (b p : Bytes) (ns : List Bytes) → good_path b p ≡ true → path_names b p ≡ path_names base old ++ ns → resolve image' ds b p ≡ absent 9
  -- every other path is answered as before, whatever the answer, and a bad one by 8
  pub elsewhere : (b p : Bytes) → ((ns : List Bytes) → path_names b p ≢ path_names base old ++ ns)
      → ((ns : List Bytes) → path_names b p ≢ path_names base new ++ ns) → resolve image' ds b p ≡ resolve image ds b p
  pub bad_paths : (b p : Bytes) → good_path b p ≡ false → resolve image' ds b p ≡ absent 8
  -- "Everything that isn't the moved object or below it keeps its path": what was found there is found there
  pub paths : (b p : Bytes) (j : ℕ) → resolve image ds b p ≡ found j → ¬ Memᴰ inode (lineage by_bytes (volume image ds) j)
      → resolve image' ds b p ≡ found j
  -- what is the moved object or below it was found by a path at or below the old one, and is found by every good path of the same rest below the
  -- new one
  pub moved_paths : (b p : Bytes) (j : ℕ) → resolve image ds b p ≡ found j → Memᴰ inode (lineage by_bytes (volume image ds) j)
      → (ns : List Bytes) × (path_names b p ≡ path_names base old ++ ns)
      × ((c q : Bytes) → good_path c q ≡ true → path_names c q ≡ path_names base new ++ ns → resolve image' ds c q ≡ found j)
  -- ".. and contents", "The moved file keeps its contents": every read of every inode answers alike, by bytes, number and header count
  pub reads : (j position room : ℕ) → read_given image' ds j position room ≡ read_given image ds j position room
  pub contents : (f : ℕ) → file_blocks by_bytes (volume image' ds) f ≡ file_blocks by_bytes (volume image ds) f
  -- nothing dies and nothing comes to life: what was live stays live, what was dead dead, and an orphan an orphan
  pub fates : (j : ℕ) → fate_of by_bytes (volume image' ds) j ≡ fate_of by_bytes (volume image ds) j
  -- as many inodes and as many live ones: "5 is tested again" in vain
  pub ids : length (inode_ids by_bytes (volume image' ds)) ≡ length (inode_ids by_bytes (volume image ds))
  pub live_ones : length (live_ids by_bytes (volume image' ds)) ≡ length (live_ids by_bytes (volume image ds))
  -- what is the moved object or below it is so still, and nothing else
  pub below : (j : ℕ) → Memᴰ inode (lineage by_bytes (volume image ds) j) → Memᴰ inode (lineage by_bytes (volume image' ds) j)
  pub was_below : (j : ℕ) → Memᴰ inode (lineage by_bytes (volume image' ds) j) → Memᴰ inode (lineage by_bytes (volume image ds) j)
  -- it has the new names in place of the old ones, and all else keeps its ancestors and its names
  pub new_names : (j : ℕ) → Memᴰ inode (lineage by_bytes (volume image ds) j)
      → (ns : List Bytes) × (names_of by_bytes (volume image ds) j ≡ path_names base old ++ ns)
      × (names_of by_bytes (volume image' ds) j ≡ path_names base new ++ ns)
  pub same_names : (j : ℕ) → ¬ Memᴰ inode (lineage by_bytes (volume image ds) j)
      → names_of by_bytes (volume image' ds) j ≡ names_of by_bytes (volume image ds) j
  pub same_lineages : (j : ℕ) → ¬ Memᴰ inode (lineage by_bytes (volume image ds) j)
      → lineage by_bytes (volume image' ds) j ≡ lineage by_bytes (volume image ds) j
  -- the moved object's ancestors are those of the directory, which is the first of them
  pub new_lineage : lineage by_bytes (volume image' ds) inode ≡ inode ∷ lineage by_bytes (volume image ds) directory
  -- the records that count: "the inode is rewritten", and every other counts that did
  pub counts : inode_of by_bytes (volume image' ds) inode ≡ some (rewritten (volume image ds) inode directory (last_name (path_names base new)))
  pub inodes : (j : ℕ) → j ≢ inode → inode_of by_bytes (volume image' ds) j ≡ inode_of by_bytes (volume image ds) j
  -- "with the same id, sequence plus one, and the new parent and name"
  pub is : IsInode (rewritten (volume image ds) inode directory (last_name (path_names base new))) inode
      (suc (sequence_of (inode_of by_bytes (volume image ds) inode))) directory (last_name (path_names base new))
  -- "it goes where any new record goes": to a clean file area, and no other byte is changed
  pub went : WrittenOne image image' ds (rewritten (volume image ds) inode directory (last_name (path_names base new)))
  pub stored : OneStored image image' ds went.area (rewritten (volume image ds) inode directory (last_name (path_names base new)))
  -- the file areas are the same, and each is as clean as it was
  pub same_areas : file_areas image' ds ≡ file_areas image ds
  pub clean_after : (d : Descriptor) → Memᴰ d ds → area_clean record_size (area_bytes image' d) ≡ area_clean record_size (area_bytes image d)
  -- an image of bytes stays one, for the next call
  pub octets : Octets image → Octets image'
