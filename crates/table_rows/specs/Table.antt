-- A table of ids, each with the place of the record that counts for it. Document 01, "What counts".
use Rattle.std.specs.Prelude.{ℕ, ◌≤◌, ◌≡◌, Bool, true, false, cond, List, length, take, get_or, set, ltb}
use Rattle.std.proofs.Math.Option.{Option, none, some}
use Rattle.format.specs.Bytes.{Bytes}
use Rattle.volume.specs.View.{View}
use Rattle.volume.specs.Counting.{counting, ids_of}
use Rattle.record_places.specs.Place.{by_place, AllLie}
use Rattle.table_words.specs.Position.{position_of}
use Rattle.table_words.specs.Occupancy.{bits, capacity, most_words, total, Low}
use Rattle.table_rows.specs.declared.Updated.{Updated}
use Rattle.table_rows.specs.declared.Updated.TheVariants.{Newer, Older, Full}

-- "the number taken is read from that word"
abbrev pub taken : List ℕ → ℕ
taken words = total (bits words)

-- the row of an id among the first n, or n where none of them has it
abbrev pub row_of : ℕ → List ℕ → ℕ → ℕ
row_of n ids i = position_of i (take n ids)

-- the place that the row k holds, if it is one of the first n
abbrev pub held : ℕ → List ℕ → ℕ → Option ℕ
held n spots k = cond (ltb k n) (some (get_or spots k 0)) none

-- what the first n rows have for an id
abbrev pub found : ℕ → List ℕ → List ℕ → ℕ → Option ℕ
found n ids spots i = held n spots (row_of n ids i)

-- the first n rows are those of the records ps: their ids in the order of first sight, and for each id the record that counts
pub record Rows (F : View ℕ) (ps : List ℕ) (n : ℕ) (ids spots : List ℕ) : Type 0 where
  pub ids_are : take n ids ≡ ids_of F ps
  pub counts : (i : ℕ) → counting F ps i ≡ found n ids spots i

-- a table has an id and a spot for each place of its words
pub record Sized (words ids spots : List ℕ) : Type 0 where
  pub few : length words ≤ most_words
  pub ids_long : length ids ≡ capacity words
  pub spots_long : length spots ≡ capacity words

-- a table that may be used: the taken rows stand first, and hold places of whole records
pub record Good (image : Bytes) (words ids spots : List ℕ) : Type 0 where
  pub sized : Sized words ids spots
  pub low : Low (bits words)
  pub lie : AllLie image spots (taken words)

-- what becomes of the record p in a table of m places of which n are taken, by what it has for p's id
unfoldable pub judged : View ℕ → ℕ → ℕ → Option ℕ → ℕ → Updated
judged F n m none p = cond (ltb n m) Newer Full
judged F n m (some q) p = cond (ltb (F.sequence q) (F.sequence p)) Newer Older

abbrev pub is_newer : Updated → Bool
is_newer Newer = true
is_newer Older = false
is_newer Full = false

-- the row of the record p: that of its id, or the lowest free one
abbrev pub row_for : Bytes → List ℕ → List ℕ → ℕ → ℕ
row_for image words ids p = row_of (taken words) ids ((by_place image).id p)

-- The record p was shown to a table. Where it counts now, its row is taken and has its id and its place; else the table is as it was.
pub record Updates (image : Bytes) (p : ℕ) (words ids spots : List ℕ) (r : Updated) (words' ids' spots' : List ℕ) : Type 0 where
  pub answer : r ≡ judged (by_place image) (taken words) (capacity words) (found (taken words) ids spots ((by_place image).id p)) p
  pub words_are : bits words' ≡ cond (is_newer r) (set (bits words) (row_for image words ids p) 1) (bits words)
  pub ids_are : ids' ≡ cond (is_newer r) (set ids (row_for image words ids p) ((by_place image).id p)) ids
  pub spots_are : spots' ≡ cond (is_newer r) (set spots (row_for image words ids p) p) spots
