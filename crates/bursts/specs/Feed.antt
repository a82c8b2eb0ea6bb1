-- The check taken bit by bit: up to 16 bits in a row can be told from the register behind them.
use Rattle.std.specs.Prelude.{ℕ, zero, suc, ◌+◌, ◌*◌, ◌^◌, ◌≤◌, ◌<◌, ◌≡◌, refl, List, [], ◌∷◌, ◌++◌, length}
use Rattle.std.proofs.Common.{sym, ap, ap₂, ◌∙◌, arith, le_of_suc-le-suc, pow-suc, mul_assoc, pow_pos}
use Rattle.std.specs.Int.Bits.{bit_xor, xor_shifted, xor_zero_r}
use Rattle.std.proofs.lemmas.Nat.{xor_lt, xor_comm}
use Rattle.format.specs.Crc.{crc_bit}
use Rattle.format_laws.specs.Crc.{crc_bit_lt}
use Rattle.crc_laws.specs.Xor.{xor_assoc, xor_cancel}
use Rattle.crc_laws.specs.Register.{bit_linear, bit_low, bit_injective, crc_bits, bits_injective}

-- what holds of any two bits
pub two_bits : (P : ℕ → ℕ → Type 0) → P 0 0 → P 0 1 → P 1 0 → P 1 1 → (x y : ℕ) → x < 2 → y < 2 → P x y
two_bits P a b c d zero zero h k = a
two_bits P a b c d zero (suc zero) h k = b
two_bits P a b c d (suc zero) zero h k = c
two_bits P a b c d (suc zero) (suc zero) h k = d
two_bits P a b c d zero (suc (suc y)) h k = absurd (omega arith)
two_bits P a b c d (suc zero) (suc (suc y)) h k = absurd (omega arith)
two_bits P a b c d (suc (suc x)) y h k = absurd (omega arith)

-- the register after one bit that is added at the top, and after some
abbrev pub step : ℕ → ℕ → ℕ
step r x = crc_bit (bit_xor r (x * 32768))

unfoldable pub feed : ℕ → List ℕ → ℕ
feed r [] = r
feed r (x ∷ l) = feed (step r x) l

-- every number of a list is a bit
pub data Bits : List ℕ → Type 0 where
  none : Bits []
  more : {x : ℕ} {l : List ℕ} → x < 2 → Bits l → Bits (x ∷ l)

pub feed_append : (r : ℕ) (a b : List ℕ) → feed r (a ++ b) ≡ feed (feed r a) b
unfolding feed
feed_append r [] b = refl
feed_append r (x ∷ a) b = feed_append (step r x) a b

pub step_lt : (r x : ℕ) → r < 65536 → x < 2 → step r x < 65536
step_lt r x h k = crc_bit_lt (bit_xor r (x * 32768)) (xor_lt 16 r (x * 32768) h (omega arith))

pub feed_lt : (r : ℕ) {l : List ℕ} → r < 65536 → Bits l → feed r l < 65536
unfolding feed
feed_lt r h none = h
feed_lt r h (more {x = x} k t) = feed_lt (step r x) (step_lt r x h k) t

-- two registers from which the same bits lead to the same register are the same
pub feed_injective : (a b : ℕ) {l : List ℕ} → a < 65536 → b < 65536 → Bits l → feed a l ≡ feed b l → a ≡ b
unfolding feed
feed_injective a b g h none e = e
feed_injective a b g h (more {x = x} k t) e =
    let m : x * 32768 < 65536 = omega arith in
    xor_cancel a b (x * 32768)
    (bit_injective (bit_xor a (x * 32768)) (bit_xor b (x * 32768)) (xor_lt 16 a (x * 32768) g m) (xor_lt 16 b (x * 32768) h m)
    (feed_injective (step a x) (step b x) (step_lt a x g k) (step_lt b x h k) t e))

-- the number that the bits of a list make at the top of k bits
unfoldable pub value : ℕ → List ℕ → ℕ
value k [] = 0
value zero (x ∷ l) = 0
value (suc k) (x ∷ l) = x * 2 ^ k + value k l

value_lt : (k : ℕ) {l : List ℕ} → Bits l → value k l < 2 ^ k
unfolding value
value_lt k none = pow_pos k
value_lt zero (more h t) = pow_pos 0
value_lt (suc k) (more {x = x} {l = l} h t) = go x h (value_lt k t)
  where
    go : (y : ℕ) → y < 2 → value k l < 2 ^ k → y * 2 ^ k + value k l < 2 ^ suc k
    go zero c v = rw (pow-suc 2 k) (omega arith)
    go (suc zero) c v = rw (pow-suc 2 k) (omega arith)
    go (suc (suc y)) c v = absurd (omega arith)

-- room for one bit more doubles it
value_double : (k : ℕ) (l : List ℕ) → length l ≤ k → value (suc k) l ≡ value k l * 2
unfolding value
value_double k [] h = refl
value_double zero (x ∷ l) h = absurd (omega arith)
value_double (suc k) (x ∷ l) h =
    let e : x * 2 ^ suc k ≡ x * 2 ^ k * 2 = rw (pow-suc 2 k) (sym (mul_assoc x (2 ^ k) 2)) in
    rw (e, value_double k l (le_of_suc-le-suc h)) (omega arith)

digit : (p v w : ℕ) → v < p → w < p → (x y : ℕ) → x < 2 → y < 2 → x * p + v ≡ y * p + w → (x ≡ y) × (v ≡ w)
digit p v w c d =
    two_bits (λ (x y : ℕ). x * p + v ≡ y * p + w → (x ≡ y) × (v ≡ w))
    (λ e. (refl, omega arith)) (λ e. absurd (omega arith)) (λ e. absurd (omega arith)) (λ e. (refl, omega arith))

value_injective : (k : ℕ) {l m : List ℕ} → Bits l → Bits m → length l ≡ length m → length l ≤ k → value k l ≡ value k m → l ≡ m
unfolding value
value_injective k none none e h q = refl
value_injective k none (more c t) e h q = absurd (omega arith)
value_injective k (more c t) none e h q = absurd (omega arith)
value_injective zero (more c t) (more d u) e h q = absurd (omega arith)
value_injective (suc k) (more {x = x} {l = l} c t) (more {x = y} {l = m} d u) e h q =
    let z = digit (2 ^ k) (value k l) (value k m) (value_lt k t) (value_lt k u) x y c d q in
    ap₂ ◌∷◌ z.0 (value_injective k t u (omega arith) (omega arith) z.1)

-- up to 16 bits may be added all at once
pub feed_value : (r : ℕ) {l : List ℕ} → r < 65536 → Bits l → length l ≤ 16 → feed r l ≡ crc_bits (length l) (bit_xor r (value 16 l))
unfolding feed crc_bits value
feed_value r g none h = sym (xor_zero_r r)
feed_value r g (more {x = x} {l = l} c t) h =
    let v = value_lt 15 t in
    let a : bit_xor r (x * 32768) < 65536 = xor_lt 16 r (x * 32768) g (omega arith) in
    feed_value (step r x) (step_lt r x g c) t (omega arith)
    ∙ ap (crc_bits (length l))
    (ap (bit_xor (step r x)) (value_double 15 l (omega arith) ∙ sym (bit_low (value 15 l) v))
    ∙ sym (bit_linear (bit_xor r (x * 32768)) (value 15 l) a (omega arith))
    ∙ ap crc_bit (xor_assoc r (x * 32768) (value 15 l) ∙ ap (bit_xor r) (xor_shifted x 15 (value 15 l) v)))

-- two runs of at most 16 bits that lead from the same register to the same register are the same
pub feed_window : (r : ℕ) {l m : List ℕ} → r < 65536 → Bits l → Bits m → length l ≡ length m → length l ≤ 16 → feed r l ≡ feed r m → l ≡ m
feed_window r {l} {m} g t u e h q =
    let v = value_lt 16 t in
    let w = value_lt 16 u in
    let ends : crc_bits (length l) (bit_xor r (value 16 l)) ≡ crc_bits (length l) (bit_xor r (value 16 m)) =
    sym (feed_value r g t h) ∙ q ∙ feed_value r g u (omega arith) ∙ ap (λ (n : ℕ). crc_bits n (bit_xor r (value 16 m))) (sym e) in
    let sums = bits_injective (length l) (bit_xor r (value 16 l)) (bit_xor r (value 16 m)) (xor_lt 16 r (value 16 l) g v) (xor_lt 16 r (value 16 m) g w) ends in
    value_injective 16 t u e h
    (xor_cancel (value 16 l) (value 16 m) r (xor_comm (value 16 l) r ∙ sums ∙ xor_comm r (value 16 m)))
