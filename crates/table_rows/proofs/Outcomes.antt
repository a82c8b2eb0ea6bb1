-- The four ways that `update` ends, as laws of the lists that it leaves.
use Prim.Native.Nat.{ℕ, ◌≤◌, ◌<◌}
use mathlib.Core.Path.{◌≡◌, refl, sym, ◌∙◌}
use mathlib.Core.List.{List}
use native.Mathlib.Omega.{arith}
use lib.ListN.{get_or, set}
use borrow.Author.Tests.{lt-ltb, le-ltb}
use Rattle.format.specs.Bytes.{Bytes}
use Rattle.record_places.specs.Place.{by_place}
use Rattle.table_words.specs.Occupancy.{bits, capacity, first_zero}
use Rattle.table_words.specs.Laws.{position_found, position_within, low_first}
use Rattle.table_rows.specs.Table.{taken, Good, judged, row_for, Updates}
use Rattle.table_rows.specs.Laws.{held_in, held_out, ids_room, set_same, taken_stays}
use Rattle.table_rows.specs.declared.Updated.TheVariants.{Newer, Older, Full}

-- k is the row that was found for the record p
module _ (image : Bytes) (p : ℕ) (words ids spots : List ℕ) (good : Good image words ids spots) (k : ℕ) (row : k ≡ row_for image words ids p) where
  pub ends_over : k < taken words → (by_place image).sequence (get_or spots k 0) < (by_place image).sequence p
      → Updates image p words ids spots Newer words ids (set spots k p)
  unfolding judged
  ends_over h l =
      let id-there = rw (← row) at (position_found ((by_place image).id p) (taken words) ids (ids_room good.sized) (rw (← row) h)) in
      record {
        answer = rw (← row, held_in (taken words) spots k h, lt-ltb ((by_place image).sequence (get_or spots k 0)) ((by_place image).sequence p) l);
        words_are = rw (← row) (sym (taken_stays (bits words) good.low k h));
        ids_are = rw (← row) (sym (set_same ids k ((by_place image).id p) id-there));
        spots_are = rw (← row);
      }

  pub ends_under : k < taken words → (by_place image).sequence p ≤ (by_place image).sequence (get_or spots k 0)
      → Updates image p words ids spots Older words ids spots
  unfolding judged
  ends_under h l = record {
    answer = rw (← row, held_in (taken words) spots k h, le-ltb ((by_place image).sequence (get_or spots k 0)) ((by_place image).sequence p) l);
    words_are = refl;
    ids_are = refl;
    spots_are = refl;
  }

  -- the row of an id that is not there, and the lowest free one
  pub free_row : (free : ℕ) → free ≡ first_zero (bits words) → free ≡ taken words
  free_row free e = e ∙ low_first (bits words) good.low

  behind : taken words ≤ k → k ≡ taken words
  behind h = omega (arith, row, position_within ((by_place image).id p) (taken words) ids (ids_room good.sized))

  pub ends_new : taken words ≤ k → (i free : ℕ) (words' : List ℕ) → i ≡ (by_place image).id p → free ≡ first_zero (bits words)
      → free < capacity words → bits words' ≡ set (bits words) free 1
      → Updates image p words ids spots Newer words' (set ids free i) (set spots free p)
  unfolding judged
  ends_new h i free words' is first room took =
      let z : free ≡ k = free_row free first ∙ sym (behind h) in
      record {
        answer = rw (← row, held_out (taken words) spots k h, lt-ltb (taken words) (capacity words) (omega (arith, free_row free first)));
        words_are = rw (← row, ← z) took;
        ids_are = rw (← row, ← z, is);
        spots_are = rw (← row, ← z);
      }

  pub ends_full : taken words ≤ k → (free : ℕ) → free ≡ first_zero (bits words) → capacity words ≤ free
      → Updates image p words ids spots Full words ids spots
  unfolding judged
  ends_full h free first room = record {
    answer = rw (← row, held_out (taken words) spots k h, le-ltb (taken words) (capacity words) (omega (arith, free_row free first)));
    words_are = refl;
    ids_are = refl;
    spots_are = refl;
  }
