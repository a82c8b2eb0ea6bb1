-- Lists that agree on their first bytes have the same fields there.
use Rattle.std.specs.Prelude.{ℕ, zero, suc, ◌+◌, ◌-◌, ◌≤◌, ◌<◌, ◌≡◌, [], ◌∷◌, length, get_or, take, drop}
use Rattle.std.proofs.Common.{sym, ap, ◌∙◌, length-take, length-drop, get_or-take, get_or-drop, take-take, take_all}
use native.Mathlib.Omega.{arith}
use Rattle.std.proofs.Math.Nat.{sub-zero}
use Rattle.std.proofs.Math.Seq.{take-nil, drop-nil}
use Rattle.format.specs.Bytes.{Bytes, byte_at, le16, le32}

-- a front without its first bytes
pub drop_take : (a n : ℕ) (l : Bytes) → drop a (take n l) ≡ take (n - a) (drop a l)
drop_take zero n l = rw sub-zero
drop_take (suc a) n [] = simp (take-nil, drop-nil)
drop_take (suc a) zero (x ∷ l) = let z : 0 - suc a ≡ 0 = omega arith in rw z
drop_take (suc a) (suc n) (x ∷ l) = let z : suc n - suc a ≡ n - a = omega arith in rw z (drop_take a n l)

-- the part of a slice from a place to its end
pub rest_part : (l : Bytes) (a : ℕ) → take (length l - a) (drop a l) ≡ drop a l
rest_part l a = take_all (length l - a) (drop a l) (simp length-drop (omega arith))

-- l and m agree on their first k bytes
module _ (k : ℕ) (l m : Bytes) (same : take k l ≡ take k m) where
  pub same_byte : (i : ℕ) → i < k → byte_at l i ≡ byte_at m i
  same_byte i h = sym (get_or-take k l i 0 h) ∙ ap (λ (x : Bytes). get_or x i 0) same ∙ get_or-take k m i 0 h

  pub same_le16 : (i : ℕ) → i + 2 ≤ k → le16 l i ≡ le16 m i
  unfolding le16
  same_le16 i h = rw (same_byte i (omega arith), same_byte (i + 1) (omega arith))

  pub same_le32 : (i : ℕ) → i + 4 ≤ k → le32 l i ≡ le32 m i
  unfolding le32
  same_le32 i h =
      rw (same_byte i (omega arith), same_byte (i + 1) (omega arith), same_byte (i + 2) (omega arith), same_byte (i + 3) (omega arith))

  pub same_long : k ≤ length l → k ≤ length m
  same_long h = omega (arith, length-take k l, length-take k m, ap length same)

  pub same_take : (n : ℕ) → n ≤ k → take n l ≡ take n m
  same_take n h = sym (take-take n k l h) ∙ ap (take n) same ∙ take-take n k m h

-- the fields of a front are those of the whole
module _ (n : ℕ) (l : Bytes) where
  agrees : take n (take n l) ≡ take n l
  agrees = take-take n n l (omega arith)

  pub take_byte : (i : ℕ) → i < n → byte_at (take n l) i ≡ byte_at l i
  take_byte i h = get_or-take n l i 0 h

  pub take_le16 : (i : ℕ) → i + 2 ≤ n → le16 (take n l) i ≡ le16 l i
  take_le16 = same_le16 n (take n l) l agrees

  pub take_le32 : (i : ℕ) → i + 4 ≤ n → le32 (take n l) i ≡ le32 l i
  take_le32 = same_le32 n (take n l) l agrees

-- the fields of the bytes from p on
module _ (p : ℕ) (l : Bytes) where
  pub drop_byte : (i : ℕ) → byte_at (drop p l) i ≡ byte_at l (p + i)
  drop_byte i = get_or-drop p l i 0

  pub drop_le16 : (i : ℕ) → le16 (drop p l) i ≡ le16 l (p + i)
  unfolding le16
  drop_le16 i =
      let a : p + (i + 1) ≡ p + i + 1 = omega arith in
      rw (drop_byte i, drop_byte (i + 1), a)

  pub drop_le32 : (i : ℕ) → le32 (drop p l) i ≡ le32 l (p + i)
  unfolding le32
  drop_le32 i =
      let a : p + (i + 1) ≡ p + i + 1 = omega arith in
      let b : p + (i + 2) ≡ p + i + 2 = omega arith in
      let c : p + (i + 3) ≡ p + i + 3 = omega arith in
      rw (drop_byte i, drop_byte (i + 1), drop_byte (i + 2), drop_byte (i + 3), a, b, c)
