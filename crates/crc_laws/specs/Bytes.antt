-- The register after one, two and four bytes, by bits that nothing is added to on the way.
use Rattle.std.specs.Prelude.{ℕ, zero, suc, ◌+◌, ◌*◌, ◌/◌, ◌%◌, ◌<◌, ◌≡◌, length, drop}
use Rattle.std.proofs.Common.{sym, ap, ap₂, ◌∙◌, arith, zero-add, suc-add, add_assoc}
use Rattle.std.specs.Int.Bits.{bit_xor, xor_zero_r, xor_shifted}
use Rattle.std.proofs.lemmas.Nat.{xor_lt}
use Rattle.format.specs.Bytes.{Bytes, byte_at}
use Rattle.format.specs.Crc.{crc_bit, crc_byte, crc_over}
use Rattle.format_laws.specs.Crc.{crc_step}
use Rattle.crc_laws.specs.Xor.{xor_assoc, xor_shift}
use Rattle.crc_laws.specs.Register.{bit_low, crc_bits, bits_lt, bits_linear, byte_bits, byte_linear}

-- m bits and then n
bits_more : (m n r : ℕ) → crc_bits n (crc_bits m r) ≡ crc_bits (m + n) r
unfolding crc_bits
bits_more zero n r = rw (zero-add n)
bits_more (suc m) n r = rw (suc-add m n) (bits_more m n (crc_bit r))

-- a byte at the bottom moves to the top within eight bits
bits_low : (l : ℕ) → l < 256 → crc_bits 8 l ≡ l * 256
unfolding crc_bits
bits_low l h =
    rw (
      bit_low l (omega arith),
      bit_low (l * 2) (omega arith),
      bit_low (l * 2 * 2) (omega arith),
      bit_low (l * 2 * 2 * 2) (omega arith),
      bit_low (l * 2 * 2 * 2 * 2) (omega arith),
      bit_low (l * 2 * 2 * 2 * 2 * 2) (omega arith),
      bit_low (l * 2 * 2 * 2 * 2 * 2 * 2) (omega arith),
      bit_low (l * 2 * 2 * 2 * 2 * 2 * 2 * 2) (omega arith),
    )
    (omega arith)

-- a register is its high byte and its low one
halves : (r : ℕ) → bit_xor (r / 256 * 256) (r % 256) ≡ r
halves r = xor_shifted (r / 256) 8 (r % 256) (omega arith) ∙ omega arith

-- one byte: the high byte of the register is added to it, the low one moves up
pub one_byte : (r b : ℕ) → r < 65536 → b < 256 → crc_byte r b ≡ bit_xor (crc_bits 16 (bit_xor (r / 256) b)) (r % 256 * 256)
one_byte r b h k =
    let i : bit_xor (r / 256) b < 256 = xor_lt 8 (r / 256) b (omega arith) k in
    ap₂ crc_byte (sym (halves r)) (sym (xor_zero_r b))
    ∙ byte_linear (r / 256 * 256) (r % 256) b 0 (omega arith) (omega arith) k (omega arith)
    ∙ ap₂ bit_xor
    (byte_bits (r / 256 * 256) b
    ∙ ap (crc_bits 8) (xor_shift 8 (r / 256) b ∙ sym (bits_low (bit_xor (r / 256) b) i))
    ∙ bits_more 8 8 (bit_xor (r / 256) b))
    (byte_bits (r % 256) 0 ∙ ap (crc_bits 8) (xor_zero_r (r % 256)) ∙ bits_low (r % 256) (omega arith))

-- two bytes: added to the register as one number of 16 bits
pub two_bytes : (r b c : ℕ) → r < 65536 → b < 256 → c < 256 → crc_byte (crc_byte r b) c ≡ crc_bits 16 (bit_xor r (b * 256 + c))
two_bytes r b c h k m =
    let x : bit_xor r (b * 256) < 65536 = xor_lt 16 r (b * 256) h (omega arith) in
    byte_bits (crc_byte r b) c
    ∙ ap (crc_bits 8)
    (ap₂ bit_xor (byte_bits r b) (sym (bits_low c m))
    ∙ sym (bits_linear 8 (bit_xor r (b * 256)) c x (omega arith))
    ∙ ap (crc_bits 8) (xor_assoc r (b * 256) c ∙ ap (bit_xor r) (xor_shifted b 8 c m)))
    ∙ bits_more 8 8 (bit_xor r (b * 256 + c))

-- four bytes: the register and the first two of them four bytes later, and the last two by themselves
pub four_bytes : (r b c d e : ℕ) → r < 65536 → b < 256 → c < 256 → d < 256 → e < 256
    → crc_byte (crc_byte (crc_byte (crc_byte r b) c) d) e ≡ bit_xor (crc_bits 32 (bit_xor r (b * 256 + c))) (crc_bits 16 (d * 256 + e))
four_bytes r b c d e h i j k l =
    let x = bit_xor r (b * 256 + c) in
    let m : x < 65536 = xor_lt 16 r (b * 256 + c) h (omega arith) in
    ap (λ (q : ℕ). crc_byte (crc_byte q d) e) (two_bytes r b c h i j)
    ∙ two_bytes (crc_bits 16 x) d e (bits_lt 16 x m) k l
    ∙ bits_linear 16 (crc_bits 16 x) (d * 256 + e) (bits_lt 16 x m) (omega arith)
    ∙ ap (λ (q : ℕ). bit_xor q (crc_bits 16 (d * 256 + e))) (bits_more 16 16 x)

-- n bits of a register, by those of its high byte and of its low one
pub by_halves : (n x : ℕ) → x < 65536 → crc_bits n x ≡ bit_xor (crc_bits n (x / 256 * 256)) (crc_bits n (x % 256))
by_halves n x h = ap (crc_bits n) (sym (halves x)) ∙ bits_linear n (x / 256 * 256) (x % 256) (omega arith) (omega arith)

-- two bytes of a slice, and four: what a turn of a loop over it takes
pub two_steps : (r : ℕ) (s : Bytes) (i : ℕ) → i + 1 < length s
    → crc_over r (drop i s) ≡ crc_over (crc_byte (crc_byte r (byte_at s i)) (byte_at s (i + 1))) (drop (i + 2) s)
two_steps r s i h = crc_step r s i (omega arith) ∙ crc_step (crc_byte r (byte_at s i)) s (i + 1) h ∙ rw (add_assoc i 1 1)

pub four_steps : (r : ℕ) (s : Bytes) (i : ℕ) → i + 3 < length s
    → crc_over r (drop i s)
    ≡ crc_over (crc_byte (crc_byte (crc_byte (crc_byte r (byte_at s i)) (byte_at s (i + 1))) (byte_at s (i + 2))) (byte_at s (i + 3))) (drop (i + 4) s)
four_steps r s i h =
    two_steps r s i (omega arith)
    ∙ two_steps (crc_byte (crc_byte r (byte_at s i)) (byte_at s (i + 1))) s (i + 2) (omega arith)
    ∙ rw (add_assoc i 2 1, add_assoc i 2 2)
