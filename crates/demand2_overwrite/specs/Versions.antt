-- New versions of blocks, stored one after the other: each counts for its id, and every other block that did.
use Rattle.std.specs.Prelude.{ℕ, suc, ◌≡◌}
use Rattle.std.proofs.Math.Option.{some}
use mathlib.Core.List.{List, map, Memᴰ}
use Rattle.format.specs.Bytes.{Bytes}
use Rattle.format.specs.Record.{record_id, record_sequence, record_link, block_previous}
use Rattle.volume.specs.View.{by_bytes}
use Rattle.volume.specs.Counting.{Volume, block_of, block_ids}
use Rattle.volume_laws.specs.Once.{Alike}
use Rattle.calls.specs.Mount.{volume}
use Rattle.calls.specs.Overwrite.{Change, new_version}
use Rattle.calls.specs.declared.Descriptor.{Descriptor}
use Rattle.calls_laws.specs.Checks.{Passes}
use Rattle.demand2.specs.Added.{Same}
use Rattle.demand2.specs.NewRecord.{IsBlock}

-- the id of the block that is changed
abbrev pub changed_id : Change → ℕ
changed_id c = record_id c.block

-- its new version reads as what was meant: "the same id, owner, previous .., sequence plus one, and its changed data"
abbrev pub Meant : Change → Type 0
Meant c = IsBlock (new_version c) (changed_id c) (suc (record_sequence c.block)) (record_link c.block) (block_previous c.block) c.text

-- What is asked of a change: its block counts, and its new version is as meant.
pub record Renews (v : Volume Bytes) (c : Change) : Type 0 where
  pub counts : block_of by_bytes v (changed_id c) ≡ some c.block
  pub is : Meant c

-- What the new versions leave: image' is the image afterwards.
pub record AllRenewed (image image' : Bytes) (ds : List Descriptor) (cs : List Change) : Type 0 where
  pub passes : Passes image' ds
  pub same_inodes : Same (volume image ds).inodes (volume image' ds).inodes
  -- no id is new
  pub same_ids : Alike (block_ids by_bytes (volume image' ds)) (block_ids by_bytes (volume image ds))
  -- the new versions count, and of every other block the record that did
  pub here : (c : Change) → Memᴰ c cs → block_of by_bytes (volume image' ds) (changed_id c) ≡ some (new_version c)
  pub others : (j : ℕ) → ¬ Memᴰ j (map changed_id cs) → block_of by_bytes (volume image' ds) j ≡ block_of by_bytes (volume image ds) j
