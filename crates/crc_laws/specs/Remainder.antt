-- The register two bytes later without a table: by shifts.
use Rattle.std.specs.Prelude.{ℕ, ◌*◌, ◌/◌, ◌%◌}
use Rattle.std.specs.Int.Bits.{bit_xor}

-- x and 16 zero bits behind it, divided by the polynomial: the quotient, since 1 / (1 + y^4 + y^11) is 1 + y^4 + y^8 + y^11 + y^12 up to y^15,
-- where y is a shift down by one
abbrev quotient : ℕ → ℕ
quotient x = bit_xor (bit_xor (bit_xor x (x / 256)) (bit_xor x (x / 256) / 16)) (x / 2048)

-- and the remainder
unfoldable pub remainder : ℕ → ℕ
remainder x = bit_xor (bit_xor (quotient x) (quotient x % 2048 * 32)) (quotient x % 16 * 4096)
