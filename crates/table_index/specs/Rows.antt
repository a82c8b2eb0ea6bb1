-- The index of a table's rows by their ids (T-10). Seeking an id by it is seeking it row by row.
use Rattle.std.specs.Prelude.{ℕ, ◌+◌, ◌-◌, ◌≤◌, ◌<◌, ◌≡◌, ◌≢◌, List, length, take, get_or}
use Rattle.std.proofs.Common.{sym, ap, ◌∙◌, arith, length-take-le, get_or-take}
use Rattle.std.proofs.Math.Decide.{ℕ_discrete}
use Rattle.table_words.specs.Position.{position_of}
use Rattle.table_words.specs.Laws.{position_only}
use Rattle.table_index.specs.Index.{slots, slot_of, newest_of, with_item, Indexes, Walk}
use Rattle.table_index.specs.Laws.{slot_within, index_same, no_items, item_long, more_items, walk_starts, walk_goes}

-- the slot of the row k, from 1
abbrev pub row_slot : List ℕ → ℕ → ℕ
row_slot ids k = slot_of (get_or ids (k - 1) 0)

-- an index of the first n rows, no two of which have one id
pub record RowIndex (index ids : List ℕ) (n : ℕ) : Type 0 where
  pub room : slots + n ≤ length index
  pub indexes : Indexes (row_slot ids) index n
  pub apart : (j k : ℕ) → j < k → k < n → get_or ids j 0 ≢ get_or ids k 0

-- the row k is not the one sought
abbrev pub Another : List ℕ → ℕ → ℕ → Type 0
Another ids i k = get_or ids (k - 1) 0 ≢ i

-- the walk of the rows with the slot of the id i
abbrev pub RowWalk : List ℕ → ℕ → ℕ → ℕ → Type 0
RowWalk ids i n k = Walk (row_slot ids) (Another ids i) (slot_of i) n k

module _ (index ids : List ℕ) (n : ℕ) (x : RowIndex index ids n) (i : ℕ) where
  other_slot : (j : ℕ) → 0 < j → j ≤ n → row_slot ids j ≢ slot_of i → Another ids i j
  other_slot j h b d e = d (ap slot_of e)

  pub walk_rows : RowWalk ids i n (get_or index (slot_of i) 0)
  walk_rows = walk_starts (row_slot ids) (Another ids i) index (slot_of i) n x.indexes other_slot (slot_within i)

  pub walk_on : (k : ℕ) → 0 < k → Another ids i k → RowWalk ids i n k → RowWalk ids i n (get_or index (slots + k - 1) 0)
  walk_on = walk_goes (row_slot ids) (Another ids i) index (slot_of i) n x.indexes other_slot

  -- the row where the walk finds the id, and that there is none where it ends
  module _ (in_ids : n ≤ length ids) where
    pub walk_finds : (k : ℕ) → 0 < k → k ≤ n → get_or ids (k - 1) 0 ≡ i → k - 1 ≡ position_of i (take n ids)
    walk_finds k h b e = sym (position_only i (take n ids) (k - 1) (record {
      within = omega (arith, length-take-le n ids in_ids);
      here = λ l. get_or-take n ids (k - 1) 0 (omega arith) ∙ e;
      before = λ j l q. x.apart j (k - 1) l (omega arith) (sym (get_or-take n ids j 0 (omega arith)) ∙ q ∙ sym e);
    }))

    pub walk_ends : RowWalk ids i n 0 → n ≡ position_of i (take n ids)
    walk_ends w = sym (position_only i (take n ids) n (record {
      within = omega (arith, length-take-le n ids in_ids);
      here = λ l. absurd (omega (arith, length-take-le n ids in_ids));
      before = λ j l q. w.passed (j + 1) (omega arith) (omega arith)
          (let z : j + 1 - 1 ≡ j = omega arith in rw z (sym (get_or-take n ids j 0 l) ∙ q));
    }))

-- other numbers behind the rows leave the index as it is
pub rows_still : (index ids : List ℕ) (n : ℕ) → RowIndex index ids n → (ids' : List ℕ) → ((j : ℕ) → j < n → get_or ids' j 0 ≡ get_or ids j 0)
    → RowIndex index ids' n
rows_still index ids n x ids' e = record {
  room = x.room;
  indexes = index_same index n (λ j h b. ap slot_of (e (j - 1) (omega arith))) x.indexes;
  apart = λ j k h b q. x.apart j k h b (sym (e j (omega arith)) ∙ q ∙ e k b);
}

-- one row more, of an id that has none
pub rows_more : (index ids ids' : List ℕ) (n i : ℕ) → RowIndex index ids n → slots + n + 1 ≤ length index
    → ((j : ℕ) → j < n → get_or ids' j 0 ≡ get_or ids j 0) → get_or ids' n 0 ≡ i → ((j : ℕ) → j < n → get_or ids j 0 ≢ i)
    → RowIndex (with_item index (slot_of i) (n + 1)) ids' (n + 1)
rows_more index ids ids' n i x room same here absent = record {
  room = omega (arith, room, item_long index (slot_of i) (n + 1));
  indexes = rw last at
      (more_items (row_slot ids') index n room (slot_within _) (index_same index n (λ j h b. ap slot_of (same (j - 1) (omega arith))) x.indexes));
  apart = λ j k h b. go j k h b (ℕ_discrete k n);
}
  where
    last : row_slot ids' (n + 1) ≡ slot_of i
    last = let z : n + 1 - 1 ≡ n = omega arith in rw z (ap slot_of here)

    go : (j k : ℕ) → j < k → k < n + 1 → Dec (k ≡ n) → get_or ids' j 0 ≢ get_or ids' k 0
    go j k h b (yes e) q = absent j (omega arith) (sym (same j (omega arith)) ∙ q ∙ rw e here)
    go j k h b (no e) q = x.apart j k h (omega arith) (sym (same j (omega arith)) ∙ q ∙ same k (omega arith))

-- an index of no row
pub no_rows : (index ids : List ℕ) (n : ℕ) → n ≡ 0 → slots ≤ length index → ((s : ℕ) → s < slots → newest_of index s ≡ 0) → RowIndex index ids n
no_rows index ids n e room z = rw e (record {
  room = omega arith;
  indexes = no_items (row_slot ids) index z;
  apart = λ j k h b. absurd (omega arith);
})
