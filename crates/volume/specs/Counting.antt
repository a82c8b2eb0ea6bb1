-- Which records count. Document 01, "What counts", and refusals 5 and 6.
use Rattle.std.specs.Prelude.{ℕ, List, [], ◌∷◌, map, Bool, true, cond, not, ◌&&◌, eqb, ltb}
use Rattle.std.proofs.Math.Option.{Option, none, some}
use Rattle.volume.specs.Lists.{keep, all, once}
use Rattle.volume.specs.View.{View}

-- the records of a volume in the order in which they are read, parted by kind
pub record Volume (A : Type 0) : Type 0 where
  pub inodes : List A
  pub blocks : List A

module _ {A : Type 0} (F : View A) where
  unfoldable pub volume_of : List A → Volume A
  volume_of rs = record { inodes = keep (λ r. not (F.is_block r)) rs; blocks = keep F.is_block rs }

  -- "A version is any record of an id"
  unfoldable pub versions : ℕ → List A → List A
  versions i rs = keep (λ r. eqb (F.id r) i) rs

  -- the record with the greatest sequence; check 6 makes all those of that sequence equal
  unfoldable pub newest : List A → Option A
  newest [] = none
  newest (r ∷ rs) = elim (newest rs) [ none ↦ some r | some s ↦ cond (ltb (F.sequence r) (F.sequence s)) (some s) (some r) ]

  -- "The record that counts for an id is the one with the greatest sequence"
  unfoldable pub counting : List A → ℕ → Option A
  counting rs i = newest (versions i rs)

  -- the distinct ids that records bear, in the order in which they are first seen
  unfoldable pub ids_of : List A → List ℕ
  ids_of rs = once (map F.id rs)

  -- check 6 lets two records stand together
  unfoldable pub agree : A → A → Bool
  agree r s = cond (eqb (F.id r) (F.id s) && eqb (F.sequence r) (F.sequence s)) (F.same r s) true

  -- no "two records of one id, same sequence, different bytes"
  unfoldable pub all_agree : List A → Bool
  all_agree rs = all (λ r. all (agree r) rs) rs

  -- what counts, of a volume
  abbrev pub inode_of : Volume A → ℕ → Option A
  inode_of v = counting v.inodes

  abbrev pub block_of : Volume A → ℕ → Option A
  block_of v = counting v.blocks

  abbrev pub inode_ids : Volume A → List ℕ
  inode_ids v = ids_of v.inodes

  abbrev pub block_ids : Volume A → List ℕ
  block_ids v = ids_of v.blocks
