-- One collection: it takes a least area, and tallies stay as near as they were.
use Rattle.std.specs.Prelude.{ℕ, ◌+◌, cond}
use Rattle.calls.specs.declared.Descriptor.{Descriptor}
use Rattle.collect_turns.specs.Words.{is_same_area}

-- ---- one area more often collected

-- the tallies once s was collected
abbrev pub raised : Descriptor → (Descriptor → ℕ) → Descriptor → ℕ
raised s tally d = tally d + cond (is_same_area d s) 1 0
