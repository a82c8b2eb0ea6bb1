-- Laws of the check.
use Rattle.std.specs.Prelude.{ℕ, suc, ◌+◌, ◌*◌, ◌-◌, ◌≤◌, ◌<◌, ◌≡◌, refl, [], ◌∷◌, ◌++◌, Bool, true, false, cond, ltb, length, drop}
use Rattle.std.proofs.Common.{suc-le-suc, arith, add-one, drop_of_length-le, drop-cons, ltb-true}
use Rattle.std.specs.Int.Bits.{bit_xor}
use Rattle.std.proofs.lemmas.Nat.{xor_lt}
use Rattle.format.specs.Bytes.{Bytes, byte_at}
use Rattle.format.specs.Crc.{crc_bit, crc_byte, crc_over, check}

-- bytes one after the other
pub crc_append : (r : ℕ) (a b : Bytes) → crc_over r (a ++ b) ≡ crc_over (crc_over r a) b
unfolding crc_over
crc_append r [] b = refl
crc_append r (x ∷ a) b = crc_append (crc_byte r x) a b

-- one more byte of a slice, and its end: what a loop over it uses
pub crc_step : (r : ℕ) (s : Bytes) (i : ℕ) → i < length s
    → crc_over r (drop i s) ≡ crc_over (crc_byte r (byte_at s i)) (drop (i + 1) s)
unfolding crc_over
crc_step r s i h = rw (add-one, drop-cons s i 0)

pub crc_end : (r : ℕ) (s : Bytes) (i : ℕ) → length s ≤ i → crc_over r (drop i s) ≡ r
unfolding crc_over
crc_end r s i h = rw (drop_of_length-le s h)

-- the register stays within 16 bits
pub crc_bit_lt : (r : ℕ) → r < 65536 → crc_bit r < 65536
unfolding crc_bit
crc_bit_lt r h = go (ltb r 0x8000) refl
  where
    go : (t : Bool) → ltb r 0x8000 ≡ t → cond t (r * 2) (bit_xor ((r - 0x8000) * 2) 0x1021) < 65536
    go true e = omega (arith, ltb-true r 0x8000 e)
    go false e = xor_lt 16 ((r - 0x8000) * 2) 0x1021 (omega arith) (omega arith)

pub crc_byte_lt : (r b : ℕ) → r < 65536 → b < 256 → crc_byte r b < 65536
unfolding crc_byte
crc_byte_lt r b h k =
    crc_bit_lt _ (crc_bit_lt _ (crc_bit_lt _ (crc_bit_lt _ (crc_bit_lt _ (crc_bit_lt _ (crc_bit_lt _ (crc_bit_lt (bit_xor r (b * 256))
    (xor_lt 16 r (b * 256) (omega arith) (omega arith)))))))))

-- every number of a list is a byte
pub record Octets (l : Bytes) : Type 0 where
  pub at : (i : ℕ) → i < length l → byte_at l i < 256

pub crc_lt : (r : ℕ) (l : Bytes) → r < 65536 → Octets l → crc_over r l < 65536
unfolding crc_over
crc_lt r [] h k = h
crc_lt r (b ∷ l) h k =
    crc_lt (crc_byte r b) l (crc_byte_lt r b h (k.at 0 (omega arith))) (record { at = λ i g. k.at (suc i) (suc-le-suc g) })

pub check_lt : (front body : Bytes) → Octets front → Octets body → check front body < 65536
unfolding check
check_lt front body f b = crc_lt (crc_over 0 front) body (crc_lt 0 front (omega arith) f) b
