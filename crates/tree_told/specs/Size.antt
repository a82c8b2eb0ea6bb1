-- How long the text is at most: by the lengths of names and data, and the number of inodes and blocks.
use Rattle.std.specs.Prelude.{ℕ, zero, suc, ◌*◌}

-- ---- numbers

-- the least number of two digits, of three, and so on
unfoldable pub tens : ℕ → ℕ
tens zero = 10
tens (suc m) = 10 * tens m
