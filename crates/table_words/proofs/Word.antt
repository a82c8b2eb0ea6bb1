-- What the machine's operations on one word are to its digits, for words of any width k.
use mathlib.Core.Bool.{cond}
use mathlib.Core.List.{List, ◌∷◌}
use mathlib.Core.Path.{◌≡◌, refl, ap, ap₂, ◌∙◌}
use Prim.Native.Nat.{ℕ, zero, suc, ◌+◌, ◌-◌, ◌*◌, ◌/◌, ◌%◌, ◌^◌, ◌<◌, max}
use native.Mathlib.Nat.{pow-suc, max-zero, max-eq_right, mul-div_cancel, mul-mod_left}
use native.Mathlib.Omega.{arith}
use lib.Arith.{lt-one}
use lib.Bits.{bit_or, or_step, or_zero_r}
use lib.Count.{count_trailing_zeros, under, ones, ones_step}
use lib.Dec.{eqb, lit<}
use lib.ListN.{set}
use Rattle.table_words.specs.Position.{position_of}
use Rattle.table_words.specs.Occupancy.{digits, first_zero, total}

-- the complement `2 ^ k - 1 - w` has the other digit at every place: its lowest, and its half

lowest_not : (p w : ℕ) → w < p * 2 → ((p * 2 - 1) - w) % 2 ≡ 1 - w % 2
lowest_not p w h = omega arith

half_not : (p w : ℕ) → w < p * 2 → ((p * 2 - 1) - w) / 2 ≡ (p - 1) - w / 2
half_not p w h = omega arith

turned : (d t : ℕ) → d < 2 → under (1 - d) t ≡ cond (eqb d 0) 0 (suc t)
turned zero t h = refl
turned (suc zero) t h = refl
turned (suc (suc d)) t h = absurd (omega arith)

-- `!w`, trailing zeros: the lowest free place
pub trailing_not : (k w : ℕ) → w < 2 ^ k → count_trailing_zeros k ((2 ^ k - 1) - w) ≡ first_zero (digits k w)
unfolding count_trailing_zeros digits position_of
trailing_not zero w h = refl
trailing_not (suc k) w h =
    let l : w < 2 ^ k * 2 = rw pow-suc at h in
    rw (pow-suc 2 k, lowest_not (2 ^ k) w l, half_not (2 ^ k) w l, trailing_not k (w / 2) (omega arith))
    (turned (w % 2) (first_zero (digits k (w / 2))) (omega arith))

-- the count of ones: the number taken
pub ones_total : (k w : ℕ) → w < 2 ^ k → ones w ≡ total (digits k w)
unfolding digits total ones
ones_total zero w h = ap ones (lt-one h)
ones_total (suc k) w h =
    let l : w < 2 ^ k * 2 = rw pow-suc at h in
    rw (ones_step w, ones_total k (w / 2) (omega arith))

-- `w | 2 ^ j`: the place j taken
pub or_set : (k w j : ℕ) → j < k → digits k (bit_or w (2 ^ j)) ≡ set (digits k w) j 1
unfolding digits
or_set zero w j h = absurd (omega arith)
or_set (suc k) w zero h =
    let e : max (w % 2) 1 ≡ 1 = max-eq_right (omega arith) in
    let o : bit_or w 1 ≡ w / 2 * 2 + 1 = rw (or_step w 1, or_zero_r, e) in
    ap₂ (λ (d n : ℕ). d ∷ digits k n) (rw o (omega arith)) (rw o (omega arith))
or_set (suc k) w (suc j) h =
    let o : bit_or w (2 ^ suc j) ≡ bit_or (w / 2) (2 ^ j) * 2 + w % 2 =
    or_step w (2 ^ suc j) ∙ rw (pow-suc 2 j, mul-div_cancel (2 ^ j) (lit< tt), mul-mod_left (2 ^ j) 2, max-zero) in
    rw o
    (ap₂ (λ (d n : ℕ). d ∷ digits k n) (omega arith) (omega arith) ∙ ap (λ (l : List ℕ). w % 2 ∷ l) (or_set k (w / 2) j (omega arith)))
