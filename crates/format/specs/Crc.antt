-- The check. Document 01: "CRC-16 with polynomial 1021 hex, start 0, unreflected, no final change (CRC-16/XMODEM)".
use Rattle.std.specs.Prelude.{ℕ, ◌-◌, ◌*◌, [], ◌∷◌, cond, ltb}
use Rattle.std.specs.Int.Bits.{bit_xor}
use Rattle.format.specs.Bytes.{Bytes}

-- the register after one bit: shifted left, and where a 1 leaves it at the top, the polynomial is added
unfoldable pub crc_bit : ℕ → ℕ
crc_bit r = cond (ltb r 0x8000) (r * 2) (bit_xor ((r - 0x8000) * 2) 0x1021)

-- the register after one byte, which is added at the top and then taken bit by bit
unfoldable pub crc_byte : ℕ → ℕ → ℕ
crc_byte r b = crc_bit (crc_bit (crc_bit (crc_bit (crc_bit (crc_bit (crc_bit (crc_bit (bit_xor r (b * 256)))))))))

-- the register after some bytes
unfoldable pub crc_over : ℕ → Bytes → ℕ
crc_over r [] = r
crc_over r (b ∷ l) = crc_over (crc_byte r b) l

-- the check of bytes that come in two parts: the header before the check field, then the body
unfoldable pub check : Bytes → Bytes → ℕ
check front body = crc_over (crc_over 0 front) body
