-- What proofs about code share: tests as rewriting rules, and names byte by byte.
use Rattle.std.specs.Prelude.{ℕ, ◌+◌, ◌≤◌, ◌<◌, ◌≡◌, true, false, not, ◌&&◌, eqb, length, drop}
use Rattle.std.proofs.Common.{sym, ◌∙◌, add-one, drop_of_length-le, lt-ltb, le-ltb, le-leb, eq-eqb, ne_eqb}
use Rattle.std.proofs.Math.Seq.{drop-cons}
use Rattle.std.proofs.lemmas.Bool.{lt-leb, not-true, not-false}
use Rattle.format.specs.Bytes.{Bytes, byte_at}
use Rattle.format.specs.Record.{name_good}

pub ruleset tests = (lt-ltb, le-ltb, le-leb, lt-leb, eq-eqb, ne_eqb, not-true, not-false)

-- what a callee ensures, read at a test of its result
pub via : {A : Type 0} {x y z : A} → x ≡ y → x ≡ z → y ≡ z
via p q = sym p ∙ q

module _ (s : Bytes) (i : ℕ) where
  name_step : i < length s
      → name_good (drop i s) ≡ (not (eqb (byte_at s i) 0) && not (eqb (byte_at s i) 0x2f) && name_good (drop (i + 1) s))
  unfolding name_good
  name_step h = rw (add-one, drop-cons s i 0)

  pub name_nul : i < length s → byte_at s i ≡ 0 → name_good (drop i s) ≡ false
  name_nul h e = simp (name_step h, e)

  pub name_slash : i < length s → byte_at s i ≡ 0x2f → name_good (drop i s) ≡ false
  name_slash h e = simp (name_step h, e)

  pub name_next : i < length s → (byte_at s i ≡ 0 → ⊥) → (byte_at s i ≡ 0x2f → ⊥) → name_good (drop i s) ≡ name_good (drop (i + 1) s)
  name_next h e f = simp (name_step h, ne_eqb _ _ e, ne_eqb _ _ f)

  pub name_end : length s ≤ i → name_good (drop i s) ≡ true
  unfolding name_good
  name_end h = rw (drop_of_length-le s h)
