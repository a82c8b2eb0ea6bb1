-- Records stored where `place_all` says: over erased bytes only, and no other byte is changed. Nothing is asked of the records: they may be any bytes.
use Rattle.std.specs.Prelude.{ℕ, ◌+◌, ◌≤◌}
use mathlib.Core.List.{List, Memᴰ}
use Rattle.calls.specs.Storing.{Space}

-- ---- spaces, and what fits into them

-- the n bytes from p on lie in a space
pub record Inside (s : Space) (p n : ℕ) : Type 0 where
  pub behind : s.from ≤ p
  pub before_end : p + n ≤ s.end

-- they lie in one of several
abbrev pub InSome : List Space → ℕ → ℕ → Type 0
InSome ss p n = (s : Space) × Memᴰ s ss × Inside s p n
