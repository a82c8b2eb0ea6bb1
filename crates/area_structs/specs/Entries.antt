-- A list of descriptors as numbers. Document 01, "What a call is given": "The list ends at the first length 0 or at its end".
use Rattle.std.specs.Prelude.{ℕ, ◌+◌, ◌*◌, List, [], ◌∷◌, cond, replicate, set, eqb, ltb}
use Rattle.calls.specs.Areas.{most_areas}
use Rattle.calls.specs.declared.Descriptor.{Descriptor}
use Rattle.area_structs.specs.declared.Areas.{Areas}

-- one more than a good list has
abbrev pub most_entries : ℕ
most_entries = most_areas + 1

-- two numbers to each
abbrev pub most_numbers : ℕ
most_numbers = most_entries * 2

-- the numbers with the entry d at the place i
abbrev pub added : List ℕ → ℕ → Descriptor → List ℕ
added xs i d = set (set xs (i * 2) d.offset) (i * 2 + 1) d.length

-- x where the entry d at the place i is copied; y where it ends the list, or there is no room for it
abbrev pub pick : {X : Type 0} → ℕ → Descriptor → X → X → X
pick i d x y = cond (eqb d.length 0) y (cond (ltb i most_entries) x y)

-- what the rest of a list, from the place i on, makes of the numbers
unfoldable pub go_on : List Descriptor → ℕ → List ℕ → List ℕ
go_on [] i xs = xs
go_on (d ∷ ds) i xs = pick i d (go_on ds (i + 1) (added xs i d)) xs

unfoldable pub areas_of : List Descriptor → Areas
areas_of list = record { numbers = go_on list 0 (replicate most_numbers 0) }
