-- An inode rewritten: sequence plus one, another parent and name. A deletion is its case NONE and no name; document 02's rename is another.
use Rattle.std.specs.Prelude.{ℕ, suc, ◌^◌, ◌<◌, ◌≡◌, ◌≢◌, true, length}
use Rattle.std.proofs.Math.Option.{some}
use mathlib.Core.List.{List, Memᴰ}
use Rattle.format.specs.Bytes.{Bytes}
use Rattle.format.specs.Reading.{area_clean}
use Rattle.format.specs.Record.{record_size, inode_rule, name_good}
use Rattle.format_laws.specs.Crc.{Octets}
use Rattle.volume.specs.View.{by_bytes}
use Rattle.volume.specs.Counting.{inode_of}
use Rattle.volume.specs.Contents.{file_blocks}
use Rattle.calls.specs.Areas.{area_bytes, file_areas}
use Rattle.calls.specs.Mount.{volume, mount_number}
use Rattle.calls.specs.Storing.{Store}
use Rattle.calls.specs.Rewrite.{last_sequence, sequence_of, rewritten, rewrite_plan}
use Rattle.calls.specs.declared.Descriptor.{Descriptor}
use Rattle.calls_laws.specs.Checks.{Passes}
use Rattle.demand2.specs.Store.{OneStored}
use Rattle.demand2.specs.Added.{Same}
use Rattle.demand2.specs.Newer.{Newer}
use Rattle.demand2.specs.NewRecord.{IsInode, WrittenOne}

-- What is asked: a record of the inode counts, a sequence and a place are left, and parent and name are such as an inode may bear.
pub record Rewrites (image : Bytes) (ds : List Descriptor) (i parent : ℕ) (name : Bytes) : Type 0 where
  pub mounted : mount_number image ds ≡ 0
  pub record_before : Bytes
  pub counted : inode_of by_bytes (volume image ds) i ≡ some record_before
  pub not_last : sequence_of (inode_of by_bytes (volume image ds) i) ≢ last_sequence
  pub stores : List Store
  pub placed : rewrite_plan image ds i parent name ≡ some stores
  pub parent_fits : parent < 2 ^ 32
  pub name_fits : length name < 256
  pub rule : inode_rule i parent (length name) ≡ true
  pub good : name_good name ≡ true
  pub name_octets : Octets name

-- What it leaves: image' is the image afterwards.
pub record AfterRewrite (image image' : Bytes) (ds : List Descriptor) (i parent : ℕ) (name : Bytes) : Type 0 where
  pub passes : Passes image' ds
  -- the new record reads as what was meant
  pub is : IsInode (rewritten (volume image ds) i parent name) i (suc (sequence_of (inode_of by_bytes (volume image ds) i))) parent name
  -- the clean file area that it went to: no other byte is changed
  pub went : WrittenOne image image' ds (rewritten (volume image ds) i parent name)
  pub stored : OneStored image image' ds went.area (rewritten (volume image ds) i parent name)
  -- the inode records are the old ones and this one, newer than every other of its id, which is no new one
  pub newer : Newer by_bytes (volume image ds) (volume image' ds) (rewritten (volume image ds) i parent name)
  -- it counts, and of every other inode the record that did
  pub here : inode_of by_bytes (volume image' ds) i ≡ some (rewritten (volume image ds) i parent name)
  pub others : (j : ℕ) → j ≢ i → inode_of by_bytes (volume image' ds) j ≡ inode_of by_bytes (volume image ds) j
  -- the block records are the old ones, and so every file has the blocks that it had
  pub same_blocks : Same (volume image ds).blocks (volume image' ds).blocks
  pub contents : (f : ℕ) → file_blocks by_bytes (volume image' ds) f ≡ file_blocks by_bytes (volume image ds) f
  -- the file areas are the same, and each is as clean as it was
  pub same_areas : file_areas image' ds ≡ file_areas image ds
  pub clean_after : (d : Descriptor) → Memᴰ d ds → area_clean record_size (area_bytes image' d) ≡ area_clean record_size (area_bytes image d)
  -- an image of bytes stays one, for the next call
  pub octets : Octets image → Octets image'
