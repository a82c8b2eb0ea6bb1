-- Tables: the rule of a table by one test over the whole of it, and the register four bytes later by two tables.
use Rattle.std.specs.Prelude.{ℕ, suc, ◌*◌, ◌<◌, ◌≡◌, Bool, true, ◌&&◌, List, [], ◌∷◌, eqb, length, get_or}
use Rattle.crc_laws.specs.Register.{crc_bits}

-- whether all entries of a table are by a rule, from the place i on
unfoldable pub by_rule : (ℕ → ℕ) → ℕ → List ℕ → Bool
by_rule rule i [] = true
by_rule rule i (x ∷ t) = eqb x (rule i) && by_rule rule (suc i) t

-- a table of 256 entries by a rule
pub record TableOf (rule : ℕ → ℕ) (t : List ℕ) : Type 0 where
  pub size : length t ≡ 256
  pub at : (i : ℕ) → i < 256 → get_or t i 0 ≡ rule i

-- what the high byte of a register comes to 32 bits later, and its low one
unfoldable pub high_later : ℕ → ℕ
high_later i = crc_bits 32 (i * 256)

unfoldable pub low_later : ℕ → ℕ
low_later i = crc_bits 32 i

-- the two tables of the check
pub record Tables (high low : List ℕ) : Type 0 where
  pub of_high : TableOf high_later high
  pub of_low : TableOf low_later low
