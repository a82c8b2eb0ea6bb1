-- What the text says: numbers in decimal, names as printed, a line's end; and the call, which hands it out.
use mathlib.Core.List.{Memᴰ}
use Rattle.format.specs.Bytes.{Bytes}

-- ---- no newline inside a line

abbrev pub OneLine : Bytes → Type 0
OneLine l = ¬ Memᴰ 10 l
