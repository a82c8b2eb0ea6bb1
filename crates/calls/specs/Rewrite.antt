-- An inode rewritten with any parent and name: unlink and rename store one. Document 01, refusals 16 and 15: "16 comes before 15".
use Rattle.std.specs.Prelude.{ℕ, suc, List, [], ◌∷◌, eqb}
use Rattle.std.proofs.Math.Option.{Option, none, some}
use Rattle.format.specs.Bytes.{Bytes}
use Rattle.format.specs.Record.{record_sequence}
use Rattle.format.specs.Encoding.{inode_bytes}
use Rattle.volume.specs.View.{by_bytes}
use Rattle.volume.specs.Counting.{Volume, inode_of}
use Rattle.calls.specs.Refusal.{Check, ◌refused_by◌, first_refusal}
use Rattle.calls.specs.Areas.{file_areas}
use Rattle.calls.specs.Mount.{volume}
use Rattle.calls.specs.Storing.{Store, spaces, place_all, no_place, stored_or}
use Rattle.calls.specs.declared.Descriptor.{Descriptor}

-- the greatest sequence
abbrev pub last_sequence : ℕ
last_sequence = 0xffffffff

-- the sequence of the record that counts
abbrev pub sequence_of : Option Bytes → ℕ
sequence_of none = 0
sequence_of (some r) = record_sequence r

-- the inode i with "sequence plus one", and a parent and a name
unfoldable pub rewritten : Volume Bytes → ℕ → ℕ → Bytes → Bytes
rewritten v i parent name = inode_bytes i (suc (sequence_of (inode_of by_bytes v i))) parent name

-- where it goes
unfoldable pub rewrite_plan : Bytes → List Descriptor → ℕ → ℕ → Bytes → Option (List Store)
rewrite_plan image ds i parent name = place_all (spaces image (file_areas image ds)) (rewritten (volume image ds) i parent name ∷ [])

-- 16 where no sequence is left, then 15
abbrev pub rewrite_checks : Bytes → List Descriptor → ℕ → ℕ → Bytes → List Check
rewrite_checks image ds i parent name =
    (eqb (sequence_of (inode_of by_bytes (volume image ds) i)) last_sequence refused_by 16)
    ∷ (no_place (rewrite_plan image ds i parent name) refused_by 15)
    ∷ []

unfoldable pub rewrite_number : Bytes → List Descriptor → ℕ → ℕ → Bytes → ℕ
rewrite_number image ds i parent name = first_refusal (rewrite_checks image ds i parent name)

unfoldable pub image_rewritten : Bytes → List Descriptor → ℕ → ℕ → Bytes → Bytes
image_rewritten image ds i parent name = stored_or image (rewrite_plan image ds i parent name)
