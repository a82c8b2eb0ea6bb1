-- A part of a slice stored anew.
use Rattle.std.proofs.Common.{◌≡◌, ℕ, ◌+◌, ◌≤◌, ◌++◌, length, take, drop, sym, ap, ◌∙◌, arith, append_assoc}
use Rattle.std.proofs.lemmas.List.{drop-drop}
use Rattle.std.proofs.lemmas.List.Edits.{sets, sets-eq}
use borrow.Rule.Slice.PartMut.{put_mid}
use Rattle.format.specs.Bytes.{Bytes}

-- it holds the new bytes, one by one
pub part_stored : (a k : ℕ) (s b : Bytes) → length b ≡ k → a + k ≤ length s → put_mid a k s b ≡ sets s a b
part_stored a k s b e h =
    sym (sets-eq b s a (omega arith) ∙ append_assoc (take a s) b (drop (a + length b) s) ∙ ap (λ (l : Bytes). take a s ++ (b ++ l)) (search (drop-drop, e)))
