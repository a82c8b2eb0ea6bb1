-- T-10: the index of all records by id and sequence. The records with those of another lie in its slot.
use Rattle.std.specs.Prelude.{ℕ, zero, suc, ◌+◌, ◌-◌, ◌*◌, ◌≤◌, ◌<◌, ◌≡◌, refl, ◌≢◌, Bool, true, false, List, [], ◌∷◌, length, take, get_or}
use Rattle.std.proofs.Common.{arith}
use Rattle.format.specs.Bytes.{Bytes}
use Rattle.volume.specs.Lists.{all}
use Rattle.volume.specs.View.{View}
use Rattle.volume.specs.Counting.{agree}
use Rattle.record_places.specs.Place.{by_place}
use Rattle.table_index.specs.Index.{slots, slot_of, newest_of, before_of, with_item, Indexes, Walk}
use Rattle.table_index.specs.Laws.{slot_within, item_long, more_items, walk_starts, walk_goes}
use Rattle.table_fill.specs.Gather.{twins}
use Rattle.table_fill.specs.Agreement.{twins_are, others_agree}

-- the slot of a record, by id and sequence
abbrev pub slot_of_twins : View ℕ → ℕ → ℕ
slot_of_twins F p = slot_of (F.id p + F.sequence p * 40503)

-- the slot of the record at the place k, from 1
abbrev pub place_slot : Bytes → List ℕ → ℕ → ℕ
place_slot image places k = slot_of_twins (by_place image) (get_or places (k - 1) 0)

-- an index of the records at the first n places
pub record TwinIndex (image : Bytes) (places index : List ℕ) (n : ℕ) : Type 0 where
  pub room : slots + n ≤ length index
  pub indexes : Indexes (place_slot image places) index n

-- an index of none, with room for n
pub record NoTwins (image : Bytes) (places index : List ℕ) (n : ℕ) : Type 0 where
  pub room : slots + n ≤ length index
  pub small : n < 65536
  pub empty : Indexes (place_slot image places) index 0

-- the record at the place k is no twin of p
abbrev pub NoTwin : Bytes → List ℕ → ℕ → ℕ → Type 0
NoTwin image places p k = twins (by_place image) p (get_or places (k - 1) 0) ≡ false

-- the walk of the records in the slot of p
abbrev pub TwinWalk : Bytes → List ℕ → ℕ → ℕ → ℕ → Type 0
TwinWalk image places p n k = Walk (place_slot image places) (NoTwin image places p) (slot_of_twins (by_place image) p) n k

module _ (image : Bytes) (places index : List ℕ) (n : ℕ) (x : TwinIndex image places index n) (p : ℕ) where
  other_slot : (j : ℕ) → 0 < j → j ≤ n → place_slot image places j ≢ slot_of_twins (by_place image) p → NoTwin image places p j
  other_slot j h b d = go (twins (by_place image) p (get_or places (j - 1) 0)) refl
    where
      go : (t : Bool) → twins (by_place image) p (get_or places (j - 1) 0) ≡ t → NoTwin image places p j
      go true e = let s = twins_are (by_place image) p (get_or places (j - 1) 0) e in absurd (d (rw (s.0, s.1)))
      go false e = e

  pub walk_twins : TwinWalk image places p n (newest_of index (slot_of_twins (by_place image) p))
  walk_twins = walk_starts (place_slot image places) (NoTwin image places p) index (slot_of_twins (by_place image) p) n x.indexes other_slot (slot_within _)

  pub walk_on : (k : ℕ) → 0 < k → NoTwin image places p k → TwinWalk image places p n k → TwinWalk image places p n (before_of index k)
  walk_on = walk_goes (place_slot image places) (NoTwin image places p) index (slot_of_twins (by_place image) p) n x.indexes other_slot

all_first : (P : ℕ → Bool) (n : ℕ) (l : List ℕ) → n ≤ length l → ((j : ℕ) → j < n → P (get_or l j 0) ≡ true) → all P (take n l) ≡ true
unfolding all
all_first P zero l h e = refl
all_first P (suc n) [] h e = refl
all_first P (suc n) (x ∷ l) h e = rw (e 0 (omega arith)) (all_first P n l (omega arith) (λ j b. e (suc j) (omega arith)))

-- where the walk ends no record is a twin of p, so that it agrees with all
pub no_twin_agrees : (image : Bytes) (places : List ℕ) (n p : ℕ) → n ≤ length places → TwinWalk image places p n 0
    → all (agree (by_place image) p) (take n places) ≡ true
no_twin_agrees image places n p h w = all_first (agree (by_place image) p) n places h (λ j b.
    others_agree (by_place image) p (get_or places j 0) (let z : j + 1 - 1 ≡ j = omega arith in rw z at (w.passed (j + 1) (omega arith) (omega arith))))

-- one record more
pub more_twins : (image : Bytes) (places index : List ℕ) (i : ℕ) → slots + i + 1 ≤ length index → TwinIndex image places index i
    → TwinIndex image places (with_item index (slot_of_twins (by_place image) (get_or places i 0)) (i + 1)) (i + 1)
more_twins image places index i room x = record {
  room = omega (arith, room, item_long index (slot_of_twins (by_place image) (get_or places i 0)) (i + 1));
  indexes = rw last at (more_items (place_slot image places) index i room (slot_within _) x.indexes);
}
  where
    last : place_slot image places (i + 1) ≡ slot_of_twins (by_place image) (get_or places i 0)
    last = let z : i + 1 - 1 ≡ i = omega arith in rw z
