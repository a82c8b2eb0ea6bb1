-- The lowest free place is 64 for each full word passed and what is found from i on.
use Rattle.std.proofs.Common.{◌≡◌, ◌+◌, ◌*◌, drop}
use Rattle.table_words.specs.Occupancy.{bits, first_zero}
use Rattle.table_words.proofs.first_free.Given as goal

abbrev pub invariant-loop-i : goal.invariant-loop-i
invariant-loop-i l = first_zero (bits l.words) ≡ l.i * 64 + first_zero (bits (drop l.i l.words))
