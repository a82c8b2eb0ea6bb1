-- The magics of the two kinds of records: what it takes to turn one into the other.
use Rattle.std.specs.Prelude.{◌≡◌, ◌≢◌}
use Rattle.format.specs.Bytes.{Bytes}
use Rattle.bursts.specs.Words.{bit_at, altered_bits}

-- what became a record of the other kind was altered in its second bit, in its 32nd, and in 16 of its first 32
pub record Turned (t s : Bytes) : Type 0 where
  pub second : bit_at s 1 ≢ bit_at t 1
  pub last : bit_at s 31 ≢ bit_at t 31
  pub sixteen : altered_bits 32 t s ≡ 16
