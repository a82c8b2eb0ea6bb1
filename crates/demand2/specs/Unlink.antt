-- Unlink. Document 01: "Unlink writes a deletion record, sequence plus one, no name; what lies below a directory goes with it."
use Rattle.std.specs.Prelude.{ℕ, suc, ◌≡◌, ◌≢◌, ◌⊎◌, true, false, length}
use Rattle.std.proofs.Math.Option.{some}
use mathlib.Core.List.{List, [], ◌∷◌, ◌++◌, Memᴰ}
use Rattle.format.specs.Bytes.{Bytes}
use Rattle.format.specs.Ids.{NONE}
use Rattle.format.specs.Reading.{area_clean}
use Rattle.format.specs.Record.{record_size}
use Rattle.format_laws.specs.Crc.{Octets}
use Rattle.volume.specs.View.{by_bytes}
use Rattle.volume.specs.Counting.{inode_of}
use Rattle.volume.specs.Fate.{live, dead, fate_of, lineage}
use Rattle.volume.specs.Contents.{file_blocks}
use Rattle.volume.specs.Path.{good_path, path_names}
use Rattle.volume.specs.Tree.{found, absent, lookup_names}
use Rattle.calls.specs.Areas.{area_bytes, file_areas}
use Rattle.calls.specs.Mount.{volume, mount_number}
use Rattle.calls.specs.Storing.{Store, spaces, place_all}
use Rattle.calls.specs.Lookup.{resolve}
use Rattle.calls.specs.Read.{refused, read_given}
use Rattle.calls.specs.Rewrite.{last_sequence, sequence_of}
use Rattle.calls.specs.Attempt.{goes}
use Rattle.calls.specs.Unlink.{deletion, unlinking}
use Rattle.calls.specs.declared.Descriptor.{Descriptor}
use Rattle.demand2.specs.Store.{OneStored}
use Rattle.demand2.specs.NewRecord.{IsInode, WrittenOne}

-- what an accepted unlink found
pub record UnlinkGoes (image : Bytes) (ds : List Descriptor) (base path : Bytes) : Type 0 where
  pub mounted : mount_number image ds ≡ 0
  pub good : good_path base path ≡ true
  pub named : length (path_names base path) ≢ 0
  pub inode : ℕ
  pub found_there : lookup_names by_bytes (volume image ds) (path_names base path) ≡ found inode
  pub not_last : sequence_of (inode_of by_bytes (volume image ds) inode) ≢ last_sequence
  pub stores : List Store
  pub placed : place_all (spaces image (file_areas image ds)) (deletion (volume image ds) inode ∷ []) ≡ some stores
  pub goes : unlinking image ds base path ≡ goes inode

-- ---- the theorem

-- What an accepted unlink leaves: image' is the image afterwards. An inode is the unlinked one or below it when that one is in its lineage.
pub record AfterUnlink (image image' : Bytes) (ds : List Descriptor) (base path : Bytes) : Type 0 where
  pub mounts : mount_number image' ds ≡ 0
  pub inode : ℕ
  pub found_at_path : resolve image ds base path ≡ found inode
  -- its path, and every path that goes on from there, finds nothing
  pub path_lost : (b p : Bytes) (ns : List Bytes) → good_path b p ≡ true → path_names b p ≡ path_names base path ++ ns → resolve image' ds b p ≡ absent 9
  -- every other path is answered as before, whatever the answer, and a bad one by 8
  pub elsewhere : (b p : Bytes) → ((ns : List Bytes) → path_names b p ≢ path_names base path ++ ns) → resolve image' ds b p ≡ resolve image ds b p
  pub bad_paths : (b p : Bytes) → good_path b p ≡ false → resolve image' ds b p ≡ absent 8
  -- "what lies below a directory goes with it": it is dead, found no more, and every read of it is refused
  pub dies : (j : ℕ) → Memᴰ inode (lineage by_bytes (volume image ds) j) → fate_of by_bytes (volume image' ds) j ≡ dead
  pub lost : (b p : Bytes) (j : ℕ) → resolve image ds b p ≡ found j → Memᴰ inode (lineage by_bytes (volume image ds) j)
      → resolve image' ds b p ≡ absent 9
  pub unread : (j : ℕ) → Memᴰ inode (lineage by_bytes (volume image ds) j) → (position room : ℕ)
      → read_given image' ds j position room ≡ refused 9
  -- "everything else that could be reached by path reads as before"
  pub paths : (b p : Bytes) (j : ℕ) → resolve image ds b p ≡ found j → ¬ Memᴰ inode (lineage by_bytes (volume image ds) j)
      → resolve image' ds b p ≡ found j
  pub reads : (j : ℕ) → ¬ Memᴰ inode (lineage by_bytes (volume image ds) j) → (position room : ℕ)
      → read_given image' ds j position room ≡ read_given image ds j position room
  -- any other answer, 10 and 11 among them, stays or is 9 now
  pub otherwise : (b p : Bytes) → (resolve image' ds b p ≡ resolve image ds b p) ⊎ (resolve image' ds b p ≡ absent 9)
  pub stays : (j : ℕ) → ¬ Memᴰ inode (lineage by_bytes (volume image ds) j)
      → fate_of by_bytes (volume image' ds) j ≡ fate_of by_bytes (volume image ds) j
  -- nothing comes to life: what was dead stays dead, and an orphan an orphan
  pub no_new_life : (j : ℕ) → fate_of by_bytes (volume image' ds) j ≡ live → fate_of by_bytes (volume image ds) j ≡ live
  pub not_live : (j : ℕ) → fate_of by_bytes (volume image ds) j ≢ live → fate_of by_bytes (volume image' ds) j ≡ fate_of by_bytes (volume image ds) j
  -- the records that count
  pub deleted : inode_of by_bytes (volume image' ds) inode ≡ some (deletion (volume image ds) inode)
  pub inodes : (j : ℕ) → j ≢ inode → inode_of by_bytes (volume image' ds) j ≡ inode_of by_bytes (volume image ds) j
  pub contents : (f : ℕ) → file_blocks by_bytes (volume image' ds) f ≡ file_blocks by_bytes (volume image ds) f
  -- "a deletion record, sequence plus one, no name"
  pub is : IsInode (deletion (volume image ds) inode) inode (suc (sequence_of (inode_of by_bytes (volume image ds) inode))) NONE []
  -- the deletion record, and the clean file area that it went to
  pub went : WrittenOne image image' ds (deletion (volume image ds) inode)
  pub stored : OneStored image image' ds went.area (deletion (volume image ds) inode)
  -- the file areas are the same, and each is as clean as it was
  pub same_areas : file_areas image' ds ≡ file_areas image ds
  pub clean_after : (d : Descriptor) → Memᴰ d ds → area_clean record_size (area_bytes image' d) ≡ area_clean record_size (area_bytes image d)
  -- an image of bytes stays one, for the next call
  pub octets : Octets image → Octets image'
