-- The blocks of a file after an overwrite, block by block: what they are, what they hold, and how many headers a read of them follows.
use Rattle.std.specs.Prelude.{ℕ, suc, ◌+◌, ◌≤◌, ◌<◌, ◌≡◌}
use mathlib.Core.List.{List, [], ◌∷◌, ◌++◌, map, Memᴰ}
use Rattle.std.proofs.Math.ListN.{length}
use Rattle.format.specs.Bytes.{Bytes}
use Rattle.format.specs.Record.{record_id, record_sequence, record_link, block_previous}
use Rattle.format.specs.Encoding.{block_bytes}
use Rattle.format_laws.specs.Crc.{Octets}
use Rattle.volume.specs.View.{by_bytes}
use Rattle.volume.specs.Contents.{text_of}
use Rattle.calls.specs.Image.{part}
use Rattle.calls.specs.Overwrite.{Change, new_version}
use Rattle.demand2.specs.NewRecord.{IsBlock}
use Rattle.demand2_overwrite.specs.Versions.{changed_id, Meant}

-- how many bytes of data a block holds
abbrev pub held : Bytes → ℕ
held b = length (by_bytes.text b)

-- the change of the block b, whose data begin at s in the file
abbrev pub change_at : Bytes → ℕ → Bytes → Change
change_at after s b = record { block = b; text = part after s (held b) }

-- c is the new version of b, whose data begin at s in a file that will hold `after`: "rewritten with the same id, owner, previous and length,
-- sequence plus one, and its changed data"
pub record Rewritten (after : Bytes) (s : ℕ) (b c : Bytes) : Type 0 where
  pub is : IsBlock c (record_id b) (suc (record_sequence b)) (record_link b) (block_previous b) (part after s (held b))
  pub same_length : held c ≡ held b
  pub bytes_are : c ≡ block_bytes (record_id b) (suc (record_sequence b)) (record_link b) (block_previous b) (part after s (held b))

-- a block of n bytes that begins at s in its file "holds a byte of the written range", which goes from `from` up to `to`: a byte of both
abbrev pub HoldsByte : ℕ → ℕ → ℕ → ℕ → Type 0
HoldsByte from to s n = (i : ℕ) × (i < n) × (from ≤ s + i) × (s + i < to)

-- b is one of the blocks bs, of which the first begins at s in the file, and holds such a byte
pub record Holder (from to s : ℕ) (bs : List Bytes) (b : Bytes) : Type 0 where
  pub front : List Bytes
  pub behind : List Bytes
  pub split : bs ≡ front ++ (b ∷ behind)
  pub holds : HoldsByte from to (s + length (text_of by_bytes front)) (held b)

-- The blocks of a file before and after, of which the first begins at s in it, and the records that are written for them: "each block that holds a
-- byte of the written range is rewritten", "in file order", and a block that holds none is the very same record
pub data BlocksAfter (from to : ℕ) (after : Bytes) : ℕ → List Bytes → List Bytes → List Bytes → Type 0 where
  no_more : {s : ℕ} → BlocksAfter from to after s [] [] []
  as_before : {s : ℕ} {b : Bytes} {bs cs ws : List Bytes} → ¬ HoldsByte from to s (held b) → BlocksAfter from to after (s + held b) bs cs ws
      → BlocksAfter from to after s (b ∷ bs) (b ∷ cs) ws
  rewritten : {s : ℕ} {b c : Bytes} {bs cs ws : List Bytes} → HoldsByte from to s (held b) → Rewritten after s b c
      → BlocksAfter from to after (s + held b) bs cs ws → BlocksAfter from to after s (b ∷ bs) (c ∷ cs) (c ∷ ws)

-- ---- the changes

-- a change: its block is one of the file's, and its data are as long and are bytes
pub record ChangeOf (bs : List Bytes) (c : Change) : Type 0 where
  pub block_there : Memᴰ c.block bs
  pub same_length : length c.text ≡ held c.block
  pub octets : Octets c.text

-- φ gives the record that stands for each block afterwards: the new version where it is changed, and itself where no change bears its id
pub record Turns (φ : Bytes → Bytes) (bs : List Bytes) (cs : List Change) : Type 0 where
  pub here : (c : Change) → Memᴰ c cs → φ c.block ≡ new_version c
  pub others : (b : Bytes) → Memᴰ b bs → ¬ Memᴰ (record_id b) (map changed_id cs) → φ b ≡ b
  pub meant : (c : Change) → Memᴰ c cs → Meant c
  pub lengths : (c : Change) → Memᴰ c cs → length c.text ≡ held c.block
