-- What the rows of the table of inodes tell of directories, and what the code's answers say. Document 01, "Numbers of refusal" 9 to 11, and "Paths".
use Rattle.std.specs.Prelude.{ℕ, List, Result, Ok, Err}
use Rattle.format.specs.Bytes.{Bytes}
use Rattle.format.specs.Ids.{is_directory_id}
use Rattle.volume.specs.Lists.{Only, nobody, several, one, only}
use Rattle.volume.specs.View.{View}
use Rattle.volume.specs.Counting.{Volume}
use Rattle.volume.specs.Tree.{Found, found, absent, onward, children}
use Rattle.calls.specs.Outcome.{code}
use Rattle.calls.specs.declared.Refusal.{Refusal}
use Rattle.record_places.specs.Place.{by_place}
use Rattle.table_rows.specs.Rows.{RowsOf}
use Rattle.path_walk.specs.declared.Child.{Child}
use Rattle.path_walk.specs.declared.Child.TheVariants.{Nobody, Several, One}

-- the rows are those of the inodes of a volume, held by their places
abbrev pub InodesOf : Bytes → List ℕ → List ℕ → Volume ℕ → Type 0
InodesOf image ids spots v = RowsOf (by_place image) v.inodes ids spots

-- what an answer of `find_child` says
abbrev pub only_of : Child → Only ℕ
only_of Nobody = nobody
only_of Several = several
only_of (One i) = one i

-- what an answer of `resolve` says: the id of an inode, or why there is none, by the numbers of what it is refused by
abbrev pub meaning_by : {R : Type 0} → (R → ℕ) → Result ℕ R → Found
meaning_by number (Ok i) = found i
meaning_by number (Err r) = absent (number r)

abbrev pub meaning : Result ℕ Refusal → Found
meaning = meaning_by code

-- one step of a walk: where a name leads from d
abbrev pub step_of : View ℕ → Volume ℕ → ℕ → Bytes → Found
step_of F v d n = onward (is_directory_id d) (only (children F v d n)) found
