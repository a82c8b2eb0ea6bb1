-- The four ways that `update` ends, of the part in which a table stands.
use Prim.Native.Nat.{ℕ, ◌+◌, ◌≤◌, ◌<◌}
use mathlib.Core.Path.{◌≡◌, ◌∙◌}
use mathlib.Core.List.{List}
use native.Mathlib.Omega.{arith}
use lib.ListN.{length, take, drop, get_or, set, length-take, length-drop}
use lib.Seq.{take-take, get_or-drop, get_or-set_same, get_or-set_other, take-set-le, take-set-lt, drop-set-lt, drop-set-add}
use Rattle.format.specs.Bytes.{Bytes}
use Rattle.record_places.specs.Place.{by_place, Lies}
use Rattle.table_words.specs.Position.{position_of}
use Rattle.table_words.specs.Occupancy.{bits, first_zero}
use Rattle.table_words.specs.Laws.{position_before, total_within, low_first, next_total}
use Rattle.table_index.specs.Index.{slot_of, with_item}
use Rattle.table_index.specs.Laws.{item_long}
use Rattle.table_rows.specs.Table.{taken, row_for}
use Rattle.table_rows.specs.declared.Updated.TheVariants.{Newer, Older, Full}
use Rattle.table_rows.specs.Rows.{GoodPart, IndexedPart, UpdatesPart}
use Rattle.table_index.specs.Rows.{rows_still, rows_more}
use Rattle.table_rows.proofs.Outcomes.{ends_over, ends_under, ends_new, ends_full}

module _ {image : Bytes} {most : ℕ} {words part : List ℕ} (g : GoodPart image most words part) where
  pub part_long : length part ≡ most + most
  part_long = omega (arith, g.room, g.good.sized.ids_long, g.good.sized.spots_long, length-take most part, length-drop most part)

  pub taken_few : taken words ≤ most
  taken_few = omega (arith, total_within words, g.room)

  pub taken_in : taken words ≤ length part
  taken_in = omega (arith, part_long, taken_few)

  -- the lowest free row is the number of taken rows
  pub number : (n : ℕ) → n ≡ first_zero (bits words) → n ≡ taken words
  number n e = e ∙ low_first (bits words) g.good.low

  -- the record of a taken row lies in the image
  pub spot_lies : (k : ℕ) → k < taken words → Lies image (get_or part (most + k) 0)
  spot_lies k h = rw (get_or-drop most part k 0) at (g.good.lie k h)

  -- k is the row that was found for the record p
  module _ (p k : ℕ) (found : k ≡ position_of ((by_place image).id p) (take (taken words) part)) where
    row : k ≡ row_for image words (take most part) p
    row = rw (take-take (taken words) most part taken_few) found

    pub over : k < taken words → (by_place image).sequence (get_or part (most + k) 0) < (by_place image).sequence p
        → UpdatesPart image p most words part Newer words (set part (most + k) p)
    over h l =
        rw (take-set-le most part (most + k) p (omega arith), drop-set-add most part k p)
        (ends_over image p words (take most part) (drop most part) g.good k row h (rw (get_or-drop most part k 0) l))

    pub under : k < taken words → (by_place image).sequence p ≤ (by_place image).sequence (get_or part (most + k) 0)
        → UpdatesPart image p most words part Older words part
    under h l = ends_under image p words (take most part) (drop most part) g.good k row h (rw (get_or-drop most part k 0) l)

    pub new : taken words ≤ k → (i free : ℕ) (words' : List ℕ) → i ≡ (by_place image).id p → free ≡ first_zero (bits words)
        → free < most → bits words' ≡ set (bits words) free 1
        → UpdatesPart image p most words part Newer words' (set (set part free i) (most + free) p)
    new h i free words' is first room took =
        rw (
          take-set-le most (set part free i) (most + free) p (omega arith),
          take-set-lt most part free i room,
          drop-set-add most (set part free i) free p,
          drop-set-lt most part free i room,
        )
        (ends_new image p words (take most part) (drop most part) g.good k row h i free words' is first (omega (arith, g.room)) took)

    -- the index of its rows: as it was where no row is new, and with the new row
    module _ {index : List ℕ} (x : IndexedPart most words index part) where
      pub indexed_over : IndexedPart most words index (set part (most + k) p)
      indexed_over = record {
        long = x.long;
        small = x.small;
        rows = rows_still index part (taken words) x.rows (set part (most + k) p) (λ j h.
            get_or-set_other part (most + k) j p 0 (λ e. omega (arith, taken_few)));
      }

      pub indexed_new : taken words ≤ k → (i free : ℕ) (words' : List ℕ) → i ≡ (by_place image).id p → free ≡ first_zero (bits words)
          → free < most → bits words' ≡ set (bits words) free 1
          → IndexedPart most words' (with_item index (slot_of i) (free + 1)) (set (set part free i) (most + free) p)
      indexed_new h i free words' is first room took =
          let f = number free first in
          let t : taken words' ≡ free + 1 = omega (arith, f, next_total words words' free g.good.low first (omega (arith, g.room)) took) in
          record {
            long = item_long index (slot_of i) (free + 1) ∙ x.long;
            small = x.small;
            rows = rw t (rows_more index part (set (set part free i) (most + free) p) free i (rw f x.rows) (omega (arith, x.long))
                (λ j l. get_or-set_other (set part free i) (most + free) j p 0 (λ e. omega arith) ∙ get_or-set_other part free j i 0 (λ e. omega arith))
                (get_or-set_other (set part free i) (most + free) free p 0 (λ e. omega arith) ∙ get_or-set_same part free i 0 (omega (arith, part_long)))
                (λ j l e. position_before ((by_place image).id p) (taken words) part taken_in j (omega (arith, f, found)) (e ∙ is)));
          }

    pub full : taken words ≤ k → (free : ℕ) → free ≡ first_zero (bits words) → most ≤ free → UpdatesPart image p most words part Full words part
    full h free first room = ends_full image p words (take most part) (drop most part) g.good k row h free first (omega (arith, g.room))
