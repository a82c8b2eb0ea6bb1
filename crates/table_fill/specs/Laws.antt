-- The tables of a volume with one record more, and the loop that gathers the records. A law is said of a kind, for both.
use Rattle.std.specs.Prelude.{ℕ, ◌≤◌, ◌≡◌, Bool, length, take}
use mathlib.Core.List.{List}
use Rattle.format.specs.Bytes.{Bytes}
use Rattle.volume.specs.Counting.{volume_of, all_agree}
use Rattle.record_places.specs.Place.{by_place}
use Rattle.table_fill.specs.Gather.{Table, Tables, AllGood, AllRows}

-- ---- the loop

-- a table's slices keep their lengths
pub record SameSize (t u : Table) : Type 0 where
  pub words : length t.words ≡ length u.words
  pub ids : length t.ids ≡ length u.ids
  pub spots : length t.spots ≡ length u.spots

pub record SameSizes (t u : Tables) : Type 0 where
  pub inodes : SameSize t.inodes u.inodes
  pub blocks : SameSize t.blocks u.blocks

-- the records at the first i places are in the tables, which were t₀, and `agreed` tells whether check 6 passes for them
pub record Going (image : Bytes) (places : List ℕ) (n : ℕ) (t₀ t : Tables) (agreed : Bool) (i : ℕ) : Type 0 where
  pub within : i ≤ n
  pub sizes : SameSizes t t₀
  pub good : AllGood image t
  pub rows : AllRows (by_place image) (volume_of (by_place image) (take i places)) t
  pub agreed_is : agreed ≡ all_agree (by_place image) (take i places)
