-- What a table of blocks tells of a file. Document 01, "What counts": the counting blocks that name it as owner.
use Rattle.std.specs.Prelude.{ℕ, zero, suc, Bool, cond, not, ◌&&◌, List, [], ◌∷◌, length, eqb}
use Rattle.std.proofs.Math.Option.{Option, none, some}
use Rattle.format.specs.Bytes.{Bytes}
use Rattle.volume.specs.Lists.{keep, all, bind}
use Rattle.volume.specs.View.{View}
use Rattle.volume.specs.Counting.{Volume}
use Rattle.volume.specs.Contents.{text_of}
use Rattle.volume_laws.specs.Map.{over}
use Rattle.record_places.specs.Place.{by_place}
use Rattle.table_rows.specs.Rows.{RowsOf}

-- the rows are those of the blocks of a volume, held by their places
abbrev pub BlocksOf : Bytes → List ℕ → List ℕ → Volume ℕ → Type 0
BlocksOf image ids spots v = RowsOf (by_place image) v.blocks ids spots

-- the size of a file's contents, none if it is broken
abbrev pub text_size : {A : Type 0} → View A → Option (List A) → Option ℕ
text_size F = over (λ bs. length (text_of F bs))

-- where in a list the first member stands that passes a test; its length where none does
unfoldable pub first_of : {A : Type 0} → (A → Bool) → List A → ℕ
first_of t [] = zero
first_of t (a ∷ l) = cond (t a) zero (suc (first_of t l))

module _ {A : Type 0} (F : View A) (f : ℕ) where
  -- the blocks among some that name f as owner
  abbrev pub mine : List A → List A
  mine = keep (λ p. eqb (F.owner p) f)

  -- "named by none of them"
  unfoldable pub free : List A → ℕ → Bool
  free ps i = all (λ q. not (eqb (F.previous q) i)) (mine ps)

  -- a block at which a chain of f ends
  unfoldable pub is_end : List A → A → Bool
  is_end ps p = eqb (F.owner p) f && free ps (F.id p)

  -- the counting block i, if it names f as owner
  unfoldable pub block_for : (ℕ → Option A) → ℕ → Option A
  block_for c i = bind (c i) (λ p. cond (eqb (F.owner p) f) (some p) none)
