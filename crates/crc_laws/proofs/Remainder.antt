-- The register two bytes later without a table: by shifts.
use Rattle.std.specs.Prelude.{ℕ, ◌<◌, ◌≡◌, refl}
use Rattle.std.proofs.Common.{arith}
use Rattle.format.specs.Crc.{crc_bit}
use Rattle.crc_laws.specs.Linear.{Linear, sum_linear, then_linear, same_linear, down_linear, up_linear, agree, agreed}
use Rattle.crc_laws.specs.Register.{crc_bits, bits_linear}
use Rattle.crc_laws.specs.Remainder.{remainder}

remainder_linear : Linear remainder
unfolding remainder
remainder_linear =
    let sum = sum_linear same_linear (down_linear 8) in
    let quotient_linear = sum_linear (sum_linear sum (then_linear sum (down_linear 4))) (down_linear 11) in
    then_linear quotient_linear (sum_linear (sum_linear same_linear (up_linear 11 5)) (up_linear 4 12))

-- the register 16 bits later
pub two_later : (x : ℕ) → x < 65536 → crc_bits 16 x ≡ remainder x
unfolding agree crc_bits crc_bit remainder
two_later = agreed (crc_bits 16) remainder 16 (bits_linear 16) remainder_linear 16 (omega arith) refl
