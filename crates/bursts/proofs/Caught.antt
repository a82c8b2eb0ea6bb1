-- T-11: the theorem, and what goes beyond it.
use Rattle.std.specs.Prelude.{◌*◌, ◌%◌, ◌≡◌, false}
use Rattle.std.proofs.Common.{arith}
use Rattle.format.specs.Bytes.{Bytes}
use Rattle.format.specs.Record.{Kind, declared_size, acceptable, record_size}
use Rattle.bursts.specs.Words.{Damaged, altered_bits, Sure, a_burst, a_header_burst, few_bits}
use Rattle.bursts.proofs.Magics.{refused}
use Rattle.bursts.proofs.Bursts.{burst_caught, header_caught}
use Rattle.bursts.proofs.Few.{altered_even, few_caught}

-- "then it isn't acceptable": no acceptable record, of either kind, starts there, whatever stands behind it
pub caught : (k : Kind) (t s : Bytes) → Damaged k t s → Sure k (declared_size k t) t s → record_size s ≡ 0
caught k t s d (a_burst u w) = burst_caught k t s d u w
caught k t s d (a_header_burst u h) = header_caught k t s d u h
caught k t s d (few_bits f) = few_caught k t s d f

-- after an odd number of altered bits, in whichever parts they stand, none of that kind does
pub odd_caught : (k : Kind) (t s : Bytes) → Damaged k t s → altered_bits (declared_size k t * 8) t s % 2 ≡ 1 → acceptable k s ≡ false
odd_caught k t s d o = refused k s (λ c. omega (arith, altered_even k t s d c))
