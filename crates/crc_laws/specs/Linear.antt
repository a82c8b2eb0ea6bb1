-- Linear functions: they go through bit_xor, and two of them that agree at the powers of two agree.
use Prim.Native.Nat.{ℕ, zero, suc, ◌+◌, ◌-◌, ◌*◌, ◌/◌, ◌%◌, ◌^◌, ◌≤◌, ◌<◌}
use Rattle.std.specs.Prelude.{◌≡◌, Bool, ◌&&◌, eqb}
use Rattle.std.proofs.Math.Path.{refl, sym, ap}
use Rattle.std.proofs.Common.{ap₂, ◌∙◌, one-mul, pow-suc, pow_pos}
use Rattle.std.proofs.Math.Bool.{true, false}
use native.Mathlib.Omega.{arith}
use Rattle.std.specs.Int.Bits.{bit_xor, xor_self, xor_shifted}
use Rattle.std.proofs.lemmas.Nat.{xor_shr, xor_mod}
use Rattle.std.proofs.Math.Pow.{pow-lt}
use Rattle.std.proofs.Math.Dec.{ltb}
use borrow.Author.Tests.{eqb-true, ltb-true, ltb-false}
use Rattle.format_laws.specs.Record.{and_left, and_right}
use Rattle.crc_laws.specs.Xor.{xor_middle, xor_shift}

-- a function that goes through bit_xor
pub record Linear (f : ℕ → ℕ) : Type 0 where
  pub through : (x y : ℕ) → f (bit_xor x y) ≡ bit_xor (f x) (f y)

-- the sum of two, and one after the other
pub sum_linear : {f g : ℕ → ℕ} → Linear f → Linear g → Linear (λ x. bit_xor (f x) (g x))
sum_linear {f} {g} a b = record { through = λ x y. ap₂ bit_xor (a.through x y) (b.through x y) ∙ xor_middle (f x) (f y) (g x) (g y) }

pub then_linear : {f g : ℕ → ℕ} → Linear f → Linear g → Linear (λ x. g (f x))
then_linear {f} {g} a b = record { through = λ x y. ap g (a.through x y) ∙ b.through (f x) (f y) }

-- the number itself, its bits from the k-th on, and its k lowest ones moved up by j
pub same_linear : Linear (λ x. x)
same_linear = record { through = λ x y. refl }

pub down_linear : (k : ℕ) → Linear (λ x. x / 2 ^ k)
down_linear k = record { through = λ x y. xor_shr x y k }

pub up_linear : (k j : ℕ) → Linear (λ x. x % 2 ^ k * 2 ^ j)
up_linear k j =
    record { through = λ x y. ap (λ (n : ℕ). n * 2 ^ j) (xor_mod x y k) ∙ sym (xor_shift j (x % 2 ^ k) (y % 2 ^ k)) }

-- whether two functions agree at the n lowest powers of two
unfoldable pub agree : (ℕ → ℕ) → (ℕ → ℕ) → ℕ → Bool
agree f g zero = true
agree f g (suc n) = eqb (f (2 ^ n)) (g (2 ^ n)) && agree f g n

-- then two linear ones, the first of them on numbers of k bits, agree at every number of n bits
module _ (f g : ℕ → ℕ) (k : ℕ) (a : (x y : ℕ) → x < 2 ^ k → y < 2 ^ k → f (bit_xor x y) ≡ bit_xor (f x) (f y)) (b : Linear g) where
  at_zero : f 0 ≡ g 0
  at_zero = a 0 0 (pow_pos k) (pow_pos k) ∙ xor_self (f 0) ∙ sym (b.through 0 0 ∙ xor_self (g 0))

  -- a number with the n-th bit at its top
  topped : (n y : ℕ) → n < k → y < 2 ^ n → f (2 ^ n) ≡ g (2 ^ n) → f y ≡ g y → f (2 ^ n + y) ≡ g (2 ^ n + y)
  topped n y h l p q =
      let m = pow-lt h in
      let e : bit_xor (2 ^ n) y ≡ 2 ^ n + y = rw (one-mul (2 ^ n)) at (xor_shifted 1 n y l) in
      ap f (sym e) ∙ a (2 ^ n) y m (omega arith) ∙ ap₂ bit_xor p q ∙ sym (b.through (2 ^ n) y) ∙ ap g e

  pub agreed : (n : ℕ) → n ≤ k → agree f g n ≡ true → (x : ℕ) → x < 2 ^ n → f x ≡ g x
  unfolding agree
  agreed zero h e x l =
      let z : x ≡ 0 = omega arith in
      ap f z ∙ at_zero ∙ sym (ap g z)
  agreed (suc n) h e x l = go (ltb x (2 ^ n)) refl (agreed n (omega arith) (and_right (eqb (f (2 ^ n)) (g (2 ^ n))) _ e))
    where
      go : (t : Bool) → ltb x (2 ^ n) ≡ t → ((y : ℕ) → y < 2 ^ n → f y ≡ g y) → f x ≡ g x
      go true c below = below x (ltb-true x (2 ^ n) c)
      go false c below =
          let d = ltb-false x (2 ^ n) c in
          let u : x < 2 ^ n * 2 = rw (pow-suc 2 n) at l in
          let v : x - 2 ^ n < 2 ^ n = omega arith in
          let w : 2 ^ n + (x - 2 ^ n) ≡ x = omega arith in
          rw w at (topped n (x - 2 ^ n) h v (eqb-true _ _ (and_left _ _ e)) (below (x - 2 ^ n) v))
