-- Which places of a table are taken (document 01, "What counts"), as a list of binary digits of any length. Assumes nothing.
use Rattle.std.specs.Prelude.{List, [], ◌∷◌, ◌++◌, ◌≡◌, ℕ, zero, suc, ◌+◌, ◌-◌, ◌*◌, ◌/◌, ◌%◌, ◌<◌, length, replicate}
use Rattle.table_words.specs.Position.{position_of}

-- "which .. places are taken is one 64-bit word": the k lowest binary digits of a word, lowest first, 1 for a taken place
unfoldable pub digits : ℕ → ℕ → List ℕ
digits zero w = []
digits (suc k) w = w % 2 ∷ digits k (w / 2)

-- T-06: "becomes four words. The claims are to be made once for any number of words": the places of all, the first word's first
unfoldable pub bits : List ℕ → List ℕ
bits [] = []
bits (w ∷ ws) = digits 64 w ++ bits ws

-- how many places the words have
abbrev pub capacity : List ℕ → ℕ
capacity ws = length ws * 64

-- with at most so many words, every sum of places is far from wrapping
abbrev pub most_words : ℕ
most_words = 1024

-- "the lowest free place", or the number of places where none is free
abbrev pub first_zero : List ℕ → ℕ
first_zero l = position_of 0 l

-- "the number taken": the sum of the digits
unfoldable pub total : List ℕ → ℕ
total [] = zero
total (d ∷ ds) = d + total ds

-- the first n of n + m places taken, and no other
abbrev pub filled : ℕ → ℕ → List ℕ
filled n m = replicate n 1 ++ replicate m 0

-- ones, then zeros: how a table stands as long as "the lowest free place is used first" and none is given back
unfoldable pub Low : List ℕ → Type 0
Low l = l ≡ filled (total l) (length l - total l)

-- each place is taken or free
pub data Binary : List ℕ → Type 0 where
  none : Binary []
  more : {d : ℕ} {l : List ℕ} → d < 2 → Binary l → Binary (d ∷ l)
