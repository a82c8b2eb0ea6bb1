-- The order of counts is that of their tallies, where these lie within 127 of each other.
use Rattle.std.specs.Prelude.{ℕ, ◌+◌, ◌-◌, ◌%◌}

-- how far a count lies above b, in the order of wrapping
abbrev pub past : ℕ → ℕ → ℕ
past b c = (c + 256 - b) % 256
