-- The register of the check is linear, after a bit, after some bits and after a byte; and a bit's step is one-to-one.
use Rattle.std.specs.Prelude.{ℕ, zero, suc, ◌-◌, ◌*◌, ◌/◌, ◌%◌, ◌<◌, ◌≡◌, refl, Bool, true, false, cond, ltb}
use Rattle.std.proofs.Common.{sym, ap, ap₂, ◌∙◌, arith, ltb-true, ltb-false, lt-ltb}
use Rattle.std.specs.Int.Bits.{bit_xor, xor_self, xor_zero_r}
use Rattle.std.proofs.lemmas.Nat.{xor_mod, xor_shr, xor_lt}
use Rattle.format.specs.Crc.{crc_bit, crc_byte}
use Rattle.format_laws.specs.Crc.{crc_bit_lt}
use Rattle.crc_laws.specs.Xor.{xor_none, xor_middle, xor_shift}

-- a bit's step without cases: the 15 low bits doubled, and the polynomial for the bit at the top
pub bit_form : (r : ℕ) → r < 65536 → crc_bit r ≡ bit_xor (r % 32768 * 2) (r / 32768 * 0x1021)
unfolding crc_bit
bit_form r h = go (ltb r 0x8000) refl
  where
    go : (t : Bool) → ltb r 0x8000 ≡ t → cond t (r * 2) (bit_xor ((r - 0x8000) * 2) 0x1021) ≡ bit_xor (r % 32768 * 2) (r / 32768 * 0x1021)
    go true e =
        let l = ltb-true r 0x8000 e in
        let x : r % 32768 ≡ r = omega arith in
        let y : r / 32768 * 0x1021 ≡ 0 = omega arith in
        sym (ap₂ (λ (a b : ℕ). bit_xor (a * 2) b) x y ∙ xor_zero_r (r * 2))
    go false e =
        let l = ltb-false r 0x8000 e in
        let x : r % 32768 ≡ r - 0x8000 = omega arith in
        let y : r / 32768 * 0x1021 ≡ 0x1021 = omega arith in
        sym (ap₂ (λ (a b : ℕ). bit_xor (a * 2) b) x y)

-- the polynomial for two bits at the top
polynomial_sum : (x y : ℕ) → x < 2 → y < 2 → bit_xor x y * 0x1021 ≡ bit_xor (x * 0x1021) (y * 0x1021)
polynomial_sum zero y a b = refl
polynomial_sum (suc zero) zero a b = refl
polynomial_sum (suc zero) (suc zero) a b = refl
polynomial_sum (suc zero) (suc (suc y)) a b = absurd (omega arith)
polynomial_sum (suc (suc x)) y a b = absurd (omega arith)

-- one bit
pub bit_linear : (r s : ℕ) → r < 65536 → s < 65536 → crc_bit (bit_xor r s) ≡ bit_xor (crc_bit r) (crc_bit s)
bit_linear r s g h =
    bit_form (bit_xor r s) (xor_lt 16 r s g h)
    ∙ ap₂ (λ (x y : ℕ). bit_xor (x * 2) (y * 0x1021)) (xor_mod r s 15) (xor_shr r s 15)
    ∙ ap₂ bit_xor (sym (xor_shift 1 (r % 32768) (s % 32768))) (polynomial_sum (r / 32768) (s / 32768) (omega arith) (omega arith))
    ∙ xor_middle (r % 32768 * 2) (s % 32768 * 2) (r / 32768 * 0x1021) (s / 32768 * 0x1021)
    ∙ sym (ap₂ bit_xor (bit_form r g) (bit_form s h))

-- a register without a bit at the top is doubled
pub bit_low : (r : ℕ) → r < 32768 → crc_bit r ≡ r * 2
unfolding crc_bit
bit_low r h = rw (lt-ltb r 0x8000 h)

-- a register is 0 after a bit only if it was: the polynomial is odd, and a doubled number is not
bit_none : (r : ℕ) → r < 65536 → crc_bit r ≡ 0 → r ≡ 0
bit_none r h e = go (r / 32768) refl
  where
    same : r % 32768 * 2 ≡ r / 32768 * 0x1021
    same = xor_none _ _ (sym (bit_form r h) ∙ e)

    even : (m : ℕ) → m * 2 % 2 ≡ 0
    even m = omega arith

    go : (t : ℕ) → r / 32768 ≡ t → r ≡ 0
    go zero q = omega (arith, same)
    go (suc zero) q = absurd (omega (arith, same, even (r % 32768)))
    go (suc (suc t)) q = absurd (omega arith)

-- two registers that are the same after a bit were the same before
pub bit_injective : (r s : ℕ) → r < 65536 → s < 65536 → crc_bit r ≡ crc_bit s → r ≡ s
bit_injective r s g h e =
    xor_none r s (bit_none (bit_xor r s) (xor_lt 16 r s g h) (bit_linear r s g h ∙ ap (λ (x : ℕ). bit_xor x (crc_bit s)) e ∙ xor_self (crc_bit s)))

-- the register n bits later, with nothing added to it: after n bits that are 0
unfoldable pub crc_bits : ℕ → ℕ → ℕ
crc_bits zero r = r
crc_bits (suc n) r = crc_bits n (crc_bit r)

pub bits_lt : (n r : ℕ) → r < 65536 → crc_bits n r < 65536
unfolding crc_bits
bits_lt zero r h = h
bits_lt (suc n) r h = bits_lt n (crc_bit r) (crc_bit_lt r h)

pub bits_linear : (n r s : ℕ) → r < 65536 → s < 65536 → crc_bits n (bit_xor r s) ≡ bit_xor (crc_bits n r) (crc_bits n s)
unfolding crc_bits
bits_linear zero r s g h = refl
bits_linear (suc n) r s g h = ap (crc_bits n) (bit_linear r s g h) ∙ bits_linear n (crc_bit r) (crc_bit s) (crc_bit_lt r g) (crc_bit_lt s h)

pub bits_injective : (n r s : ℕ) → r < 65536 → s < 65536 → crc_bits n r ≡ crc_bits n s → r ≡ s
unfolding crc_bits
bits_injective zero r s g h e = e
bits_injective (suc n) r s g h e =
    bit_injective r s g h (bits_injective n (crc_bit r) (crc_bit s) (crc_bit_lt r g) (crc_bit_lt s h) e)

-- a byte is added at the top, and is eight bits
pub byte_bits : (r b : ℕ) → crc_byte r b ≡ crc_bits 8 (bit_xor r (b * 256))
unfolding crc_byte crc_bits
byte_bits r b = refl

-- the register after a byte: linear in register and byte
pub byte_linear : (r s b c : ℕ) → r < 65536 → s < 65536 → b < 256 → c < 256
    → crc_byte (bit_xor r s) (bit_xor b c) ≡ bit_xor (crc_byte r b) (crc_byte s c)
byte_linear r s b c g h i j =
    byte_bits (bit_xor r s) (bit_xor b c)
    ∙ ap (crc_bits 8) (ap (bit_xor (bit_xor r s)) (sym (xor_shift 8 b c)) ∙ xor_middle r s (b * 256) (c * 256))
    ∙ bits_linear 8 (bit_xor r (b * 256)) (bit_xor s (c * 256)) (xor_lt 16 r (b * 256) g (omega arith)) (xor_lt 16 s (c * 256) h (omega arith))
    ∙ sym (ap₂ bit_xor (byte_bits r b) (byte_bits s c))
