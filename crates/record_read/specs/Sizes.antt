-- The size of the record at the front of some bytes, by its rules and its check.
use Rattle.std.specs.Prelude.{ℕ, ◌≤◌, ◌≡◌, refl, Bool, true, false, cond, ◌&&◌, length, take}
use Rattle.std.proofs.Common.{sym, length-take-le}
use Rattle.format.specs.Bytes.{Bytes, le32}
use Rattle.format.specs.Record.{Kind, check_right, acceptable, declared_size, record_size}
use Rattle.format_laws.specs.Record.{LawfulKind, rules_broken, check_wrong, record_right}

-- a record that has its kind's magic, and room for the n bytes that it declares, which are b
module _ (k : Kind) (lk : LawfulKind k) (t : Bytes) (n : ℕ) (m : le32 t 0 ≡ k.magic) (e : n ≡ declared_size k t)
    (only : record_size t ≡ cond (acceptable k t) (declared_size k t) 0) (room : n ≤ length t) (b : Bytes) (taken : b ≡ take n t) where
  pub size_decided : (lawful : Bool) → lawful ≡ k.rules b → (r : ℕ) → r ≡ cond (lawful && check_right k b) (length b) 0 → r ≡ record_size t
  size_decided lawful l r q = rw (q, taken, length-take-le n t room) (go lawful (sym (rw taken at l)) (check_right k (take n t)) refl)
    where
      go : (a : Bool) → k.rules (take n t) ≡ a → (c : Bool) → check_right k (take n t) ≡ c → cond (a && c) n 0 ≡ record_size t
      go false f c g = rules_broken k lk t n m e only room f
      go true f false g = check_wrong k lk t n m e only room f g
      go true f true g = record_right k lk t n m e only room f g
