-- An area list as the code holds it: numbers, offset and length in turn.
use Rattle.std.specs.Prelude.{ℕ, List, [], ◌∷◌}
use Rattle.calls.specs.Areas.{listed}
use Rattle.calls.specs.declared.Descriptor.{Descriptor}

-- the entries that numbers stand for; an odd last number is not looked at
unfoldable pub paired : List ℕ → List Descriptor
paired [] = []
paired (o ∷ []) = []
paired (o ∷ n ∷ l) = record { offset = o; length = n } ∷ paired l

-- the area list that numbers stand for
abbrev pub area_list : List ℕ → List Descriptor
area_list l = listed (paired l)
