-- The laws of tables: what their rows tell, empty tables, and what one record more does to them.
use Rattle.std.specs.Prelude.{ℕ, zero, suc, ◌+◌, ◌-◌, ◌*◌, ◌≤◌, ◌<◌, ◌≡◌, ◌≢◌, Bool, length, set, replicate}
use Rattle.std.proofs.Math.Path.{refl, sym}
use Rattle.std.proofs.Common.{ap, ◌∙◌, arith, length-append, length-set, length-take-le, get_or-take, get_or-set_same, get_or-set_other, lt-ltb, le-ltb, ltb-true, ltb-false}
use Rattle.std.proofs.Math.Bool.{true, false, cond}
use Rattle.std.proofs.Math.Option.{none, some}
use mathlib.Core.List.Memᴰ
use mathlib.Core.List.{List, [], ◌∷◌, ◌++◌, Memᴰ}
use Rattle.std.proofs.Math.Decide.{ℕ_discrete}
use Rattle.std.proofs.Math.ListN.{take, get_or, get_or-append}
use Rattle.std.proofs.lemmas.List.{length-replicate, get_or-replicate, set-get_or}
use Rattle.std.proofs.Math.Seq.{take-suc-set}
use Rattle.std.proofs.Math.Dec.{ltb}
use Rattle.format.specs.Bytes.{Bytes}
use Rattle.volume.specs.View.{View}
use Rattle.volume.specs.Lists.{keep, once}
use Rattle.volume.specs.Counting.{versions, newest, counting, ids_of}
use Rattle.volume_laws.specs.Once.{Nodup}
use Rattle.volume_laws.specs.Counting.{counting_mem, counting_some, counting_none, counting_top, ids_of_lem, ids_mem}
use Rattle.record_places.specs.Place.{by_place, Lies, AllLie}
use Rattle.table_words.specs.Position.{position_of}
use Rattle.table_words.specs.Occupancy.{bits, capacity, most_words, first_zero, total, Low}
use Rattle.table_words.specs.Laws.{
  position_hit,
  position_miss,
  position_only,
  position_found,
  position_within,
  position_left,
  position_right,
  length_bits,
  total_within,
  low_first,
  fresh_low,
  fresh_total,
  next_total,
  next_low,
}
use Rattle.table_rows.specs.Table.{taken, row_of, held, found, Rows, Sized, Good, judged, is_newer, row_for, Updates}
use Rattle.table_rows.specs.Snoc.{ids_old, ids_new, counting_same, counting_other}
use Rattle.table_rows.specs.declared.Updated.{Updated}
use Rattle.table_rows.specs.declared.Updated.TheVariants.{Newer, Older, Full}

-- ---- rows

pub held_in : (n : ℕ) (spots : List ℕ) (k : ℕ) → k < n → held n spots k ≡ some (get_or spots k 0)
held_in n spots k h = rw (lt-ltb k n h)

pub held_out : (n : ℕ) (spots : List ℕ) (k : ℕ) → n ≤ k → held n spots k ≡ none
held_out n spots k h = rw (le-ltb k n h)

-- a place that a row holds
pub held_some : (n : ℕ) (spots : List ℕ) (k q : ℕ) → held n spots k ≡ some q → (k < n) × (get_or spots k 0 ≡ q)
held_some n spots k q e = go (ltb k n) refl e
  where
    go : (b : Bool) → ltb k n ≡ b → cond b (some (get_or spots k 0)) none ≡ some q → (k < n) × (get_or spots k 0 ≡ q)
    go true p e = (ltb-true k n p, cc)
    go false p e = let z : ◌≡◌ {A = ℕ} 0 1 = cc in absurd (omega arith)

-- the taken rows have an id and a spot each
pub ids_room : {words ids spots : List ℕ} → Sized words ids spots → taken words ≤ length ids
ids_room {words} s = omega (arith, total_within words, s.ids_long)

pub spots_room : {words ids spots : List ℕ} → Sized words ids spots → taken words ≤ length spots
spots_room {words} s = omega (arith, total_within words, s.spots_long)

-- what is found lies in the image
pub found_lies : {image : Bytes} {words ids spots : List ℕ} → Good image words ids spots
    → (i q : ℕ) → found (taken words) ids spots i ≡ some q → Lies image q
found_lies {words = words} {ids = ids} {spots = spots} g i q e =
    let h = held_some (taken words) spots (row_of (taken words) ids i) q e in
    rw h.1 at (g.lie (row_of (taken words) ids i) h.0)

-- what stands at a place of a list is a member of it
pub get_or_mem : (l : List ℕ) (k : ℕ) → k < length l → Memᴰ (get_or l k 0) l
get_or_mem [] k h = absurd (omega arith)
get_or_mem (x ∷ l) zero h = Memᴰ.head refl
get_or_mem (x ∷ l) (suc k) h = Memᴰ.tail (get_or_mem l k (omega arith))

-- no number of a list without repetition stands at two places
apart : (l : List ℕ) → Nodup l → (j k : ℕ) → j < k → k < length l → get_or l j 0 ≢ get_or l k 0
apart [] d j k h b e = omega arith
apart (x ∷ l) d j zero h b e = omega arith
apart (x ∷ l) d zero (suc k) h b e = d.0 (Memᴰ.cast e (get_or_mem l k (omega arith)))
apart (x ∷ l) d (suc j) (suc k) h b e = apart l d.1 j k (omega arith) (omega arith) e

-- ---- the rows of records

module _ (F : View ℕ) (ps : List ℕ) (n : ℕ) (ids spots : List ℕ) (rows : Rows F ps n ids spots) where
  -- what is found is a record of that id, and for every record's id one is found
  pub found_mem : (i q : ℕ) → found n ids spots i ≡ some q → Memᴰ q ps × (F.id q ≡ i)
  found_mem i q e = counting_mem F ps i q (rows.counts i ∙ e)

  pub mem_found : (q : ℕ) → Memᴰ q ps → (r : ℕ) × (found n ids spots (F.id q) ≡ some r)
  mem_found q m = let s = counting_some F ps q m in (s.0, sym (rows.counts (F.id q)) ∙ s.1)

  -- an id is found if it is one of the table's, and only then
  pub found_listed : (i q : ℕ) → found n ids spots i ≡ some q → Memᴰ i (take n ids)
  found_listed i q e = rw rows.ids_are ((ids_of_lem F ps).each i q (rows.counts i ∙ e))

  pub listed_found : (i : ℕ) → Memᴰ i (take n ids) → (q : ℕ) × (found n ids spots i ≡ some q)
  listed_found i m =
      let s = ids_mem F ps i (rw rows.ids_are at m) in
      rw s.2 at (mem_found s.0 s.1)

  -- there are as many rows as ids
  pub rows_number : n ≤ length ids → n ≡ length (ids_of F ps)
  rows_number h = sym (length-take-le n ids h) ∙ ap length rows.ids_are

  -- each row holds the record that counts for its id
  pub row_counts : n ≤ length ids → (k : ℕ) → k < n → counting F ps (get_or ids k 0) ≡ some (get_or spots k 0)
  row_counts h k b = rows.counts (get_or ids k 0) ∙ rw first (held_in n spots k b)
    where
      long : length (take n ids) ≡ n
      long = length-take-le n ids h

      first : row_of n ids (get_or ids k 0) ≡ k
      first = position_only (get_or ids k 0) (take n ids) k (record {
        within = omega (arith, long);
        here = λ l. get_or-take n ids k 0 b;
        before = λ j l e. apart (take n ids) (rw rows.ids_are (ids_of_lem F ps).nodup) j k l (omega (arith, long)) (e ∙ sym (get_or-take n ids k 0 b));
      })

-- ---- empty tables

pub empty_rows : (F : View ℕ) (n : ℕ) (ids spots : List ℕ) → n ≡ 0 → Rows F [] n ids spots
unfolding ids_of once counting versions keep newest position_of
empty_rows F n ids spots e = rw e (record { ids_are = refl; counts = λ i. refl })

-- words that are all zero make a table with no row, whatever the ids and the spots are
module _ (m : ℕ) (ids spots : List ℕ) where
  pub fresh_good : (image : Bytes) → m ≤ most_words → length ids ≡ m * 64 → length spots ≡ m * 64 → Good image (replicate m 0) ids spots
  fresh_good image h li ls = record {
    sized = record { few = rw length-replicate h; ids_long = rw length-replicate li; spots_long = rw length-replicate ls };
    low = fresh_low m;
    lie = λ k b. absurd (omega (arith, fresh_total m));
  }

  pub fresh_rows : (F : View ℕ) → Rows F [] (taken (replicate m 0)) ids spots
  fresh_rows F = empty_rows F (taken (replicate m 0)) ids spots (fresh_total m)

-- ---- one record more

-- the rows of records and of one more, p, whose row is k
module _ (F : View ℕ) (ps : List ℕ) (p n k : ℕ) (ids spots : List ℕ) (rows : Rows F ps n ids spots)
    (li : n ≤ length ids) (ls : n ≤ length spots) (at : k ≡ row_of n ids (F.id p)) where
  long : length (take n ids) ≡ n
  long = length-take-le n ids li

  -- the record that counted for its id, if there was one
  counted : k < n → counting F ps (F.id p) ≡ some (get_or spots k 0)
  counted h = rows.counts (F.id p) ∙ rw (← at) (held_in n spots k h)

  uncounted : n ≤ k → counting F ps (F.id p) ≡ none
  uncounted h = rows.counts (F.id p) ∙ rw (← at) (held_out n spots k h)

  ids_same : k < n → take n ids ≡ ids_of F (ps ++ (p ∷ []))
  ids_same h = rows.ids_are ∙ sym (ids_old F ps p (get_or spots k 0) (counted h))

  ids_more : n ≤ k → ids_of F (ps ++ (p ∷ [])) ≡ take n ids ++ (F.id p ∷ [])
  ids_more h = ids_new F ps p (uncounted h) ∙ rw (← rows.ids_are)

  -- the id in the row k is that of p, so another id has another row
  other_row : k < n → (i : ℕ) → F.id p ≢ i → row_of n ids i < n → row_of n ids i ≢ k
  other_row h i e l q =
      e (sym (position_found (F.id p) n ids li (rw (← at) h)) ∙ ap (λ (x : ℕ). get_or ids x 0) (sym at ∙ sym q) ∙ position_found i n ids li l)

  rows_newer : k < n → F.sequence (get_or spots k 0) < F.sequence p → Rows F (ps ++ (p ∷ [])) n ids (set spots k p)
  rows_newer h l = record { ids_are = ids_same h; counts = λ i. go i (ℕ_discrete (F.id p) i) }
    where
      others : (i : ℕ) → F.id p ≢ i → (b : Bool) → ltb (row_of n ids i) n ≡ b
          → cond b (some (get_or spots (row_of n ids i) 0)) none ≡ cond b (some (get_or (set spots k p) (row_of n ids i) 0)) none
      others i e true q = rw (get_or-set_other spots k (row_of n ids i) p 0 (other_row h i e (ltb-true (row_of n ids i) n q)))
      others i e false q = refl

      go : (i : ℕ) → Dec (F.id p ≡ i) → counting F (ps ++ (p ∷ [])) i ≡ found n ids (set spots k p) i
      go i (yes e) =
          counting_same F ps p i e
          ∙ rw (← e, counted h, lt-ltb (F.sequence (get_or spots k 0)) (F.sequence p) l)
          (sym (rw (← at) (held_in n (set spots k p) k h ∙ rw (get_or-set_same spots k p 0 (omega arith)))))
      go i (no e) = counting_other F ps p i e ∙ rows.counts i ∙ others i e (ltb (row_of n ids i) n) refl

  rows_older : k < n → F.sequence p ≤ F.sequence (get_or spots k 0) → Rows F (ps ++ (p ∷ [])) n ids spots
  rows_older h l = record { ids_are = ids_same h; counts = λ i. go i (ℕ_discrete (F.id p) i) }
    where
      go : (i : ℕ) → Dec (F.id p ≡ i) → counting F (ps ++ (p ∷ [])) i ≡ found n ids spots i
      go i (yes e) =
          counting_same F ps p i e
          ∙ rw (← e, counted h, le-ltb (F.sequence (get_or spots k 0)) (F.sequence p) l) (sym (rw (← at) (held_in n spots k h)))
      go i (no e) = counting_other F ps p i e ∙ rows.counts i

  rows_new : n ≤ k → n < length ids → n < length spots → Rows F (ps ++ (p ∷ [])) (suc n) (set ids n (F.id p)) (set spots n p)
  unfolding position_of
  rows_new h hi hs = record { ids_are = front ∙ sym (ids_more h); counts = λ i. rw front (go i (ℕ_discrete (F.id p) i)) }
    where
      front : take (suc n) (set ids n (F.id p)) ≡ take n ids ++ (F.id p ∷ [])
      front = take-suc-set ids n (F.id p) hi

      -- the row of an id that had none is behind the others, or there is still none
      last : (i : ℕ) → n ≤ row_of n ids i → position_of i (take n ids ++ (F.id p ∷ [])) ≡ n + position_of i (F.id p ∷ [])
      last i g = position_right i (take n ids) (F.id p ∷ []) (omega (arith, long)) ∙ rw long

      others : (i : ℕ) → F.id p ≢ i → (b : Bool) → ltb (row_of n ids i) n ≡ b
          → cond b (some (get_or spots (row_of n ids i) 0)) none ≡ held (suc n) (set spots n p) (position_of i (take n ids ++ (F.id p ∷ [])))
      others i e true q =
          let l = ltb-true (row_of n ids i) n q in
          let ne : row_of n ids i ≢ n = λ z. omega arith in
          rw (position_left i (take n ids) (F.id p ∷ []) (omega (arith, long)), lt-ltb (row_of n ids i) (suc n) (omega arith), get_or-set_other spots n (row_of n ids i) p 0 ne)
      others i e false q =
          let g = ltb-false (row_of n ids i) n q in
          let z : n + 1 ≡ suc n = omega arith in
          sym (rw (last i g, position_miss i (F.id p) [] e, z) (held_out (suc n) (set spots n p) (suc n) (omega arith)))

      go : (i : ℕ) → Dec (F.id p ≡ i) → counting F (ps ++ (p ∷ [])) i ≡ held (suc n) (set spots n p) (position_of i (take n ids ++ (F.id p ∷ [])))
      go i (yes e) =
          let z : n + 0 ≡ n = omega arith in
          counting_same F ps p i e
          ∙ rw (← e, uncounted h)
          (sym (rw (last (F.id p) (omega (arith, at)), position_hit (F.id p) (F.id p) [] refl, z)
          (held_in (suc n) (set spots n p) n (omega arith) ∙ rw (get_or-set_same spots n p 0 hs))))
      go i (no e) = counting_other F ps p i e ∙ rows.counts i ∙ others i e (ltb (row_of n ids i) n) refl

-- a taken row of a table whose taken rows stand first
low_taken : (l : List ℕ) → Low l → (k : ℕ) → k < total l → get_or l k 0 ≡ 1
unfolding Low
low_taken l low k h =
    ap (λ (x : List ℕ). get_or x k 0) low
    ∙ get_or-append (replicate (total l) 1) (replicate (length l - total l) 0) 0 k (rw length-replicate h)
    ∙ get_or-replicate (total l) k 1 0 h

-- storing what stands there already, as taking it again, changes nothing
pub set_same : (l : List ℕ) (k x : ℕ) → get_or l k 0 ≡ x → set l k x ≡ l
set_same l k x e = rw (← e) (set-get_or l k 0)

pub taken_stays : (l : List ℕ) → Low l → (k : ℕ) → k < total l → set l k 1 ≡ l
taken_stays l low k h = set_same l k 1 (low_taken l low k h)

-- The four ways that a record can go which is shown to a table: it takes the row of its id over, leaves it, gets a new row, or finds none.
data Way (image : Bytes) (p : ℕ) (words ids spots : List ℕ) (r : Updated) : Type 0 where
  over : row_for image words ids p < taken words → (by_place image).sequence (get_or spots (row_for image words ids p) 0) < (by_place image).sequence p
      → r ≡ Newer → Way image p words ids spots r
  under : row_for image words ids p < taken words → (by_place image).sequence p ≤ (by_place image).sequence (get_or spots (row_for image words ids p) 0)
      → r ≡ Older → Way image p words ids spots r
  new : row_for image words ids p ≡ taken words → taken words < capacity words → r ≡ Newer → Way image p words ids spots r
  full : row_for image words ids p ≡ taken words → taken words ≡ capacity words → r ≡ Full → Way image p words ids spots r

module _ (image : Bytes) (p : ℕ) (words ids spots : List ℕ) (r : Updated) (words' ids' spots' : List ℕ)
    (good : Good image words ids spots) (updates : Updates image p words ids spots r words' ids' spots') where
  row_within : row_for image words ids p ≤ taken words
  row_within = position_within ((by_place image).id p) (taken words) ids (ids_room good.sized)

  way : Way image p words ids spots r
  unfolding judged
  way = go (ltb (row_for image words ids p) (taken words)) refl
    where
      seen : row_for image words ids p < taken words → (q : ℕ) → q ≡ get_or spots (row_for image words ids p) 0
          → (b : Bool) → ltb ((by_place image).sequence q) ((by_place image).sequence p) ≡ b → r ≡ cond b Newer Older → Way image p words ids spots r
      seen h q e true l a = over h (rw (← e) (ltb-true ((by_place image).sequence q) ((by_place image).sequence p) l)) a
      seen h q e false l a = under h (rw (← e) (ltb-false ((by_place image).sequence q) ((by_place image).sequence p) l)) a

      unseen : taken words ≤ row_for image words ids p → (b : Bool) → ltb (taken words) (capacity words) ≡ b → r ≡ cond b Newer Full → Way image p words ids spots r
      unseen h true l a = new (omega (arith, row_within)) (ltb-true (taken words) (capacity words) l) a
      unseen h false l a = full (omega (arith, row_within)) (omega (arith, ltb-false (taken words) (capacity words) l, total_within words)) a

      go : (b : Bool) → ltb (row_for image words ids p) (taken words) ≡ b → Way image p words ids spots r
      go true e =
          let h = ltb-true (row_for image words ids p) (taken words) e in
          seen h (get_or spots (row_for image words ids p) 0) refl (ltb ((by_place image).sequence (get_or spots (row_for image words ids p) 0)) ((by_place image).sequence p)) refl
          (updates.answer ∙ rw (held_in (taken words) spots (row_for image words ids p) h))
      go false e =
          let h = ltb-false (row_for image words ids p) (taken words) e in
          unseen h (ltb (taken words) (capacity words)) refl (updates.answer ∙ rw (held_out (taken words) spots (row_for image words ids p) h))

  -- the table then: with the record in its row, or as it was
  kept : r ≡ Newer
      → (bits words' ≡ set (bits words) (row_for image words ids p) 1)
      × (ids' ≡ set ids (row_for image words ids p) ((by_place image).id p))
      × (spots' ≡ set spots (row_for image words ids p) p)
  kept e = (updates.words_are ∙ rw e, updates.ids_are ∙ rw e, updates.spots_are ∙ rw e)

  left : is_newer r ≡ false → (bits words' ≡ bits words) × (ids' ≡ ids) × (spots' ≡ spots)
  left e = (updates.words_are ∙ rw e, updates.ids_are ∙ rw e, updates.spots_are ∙ rw e)

  -- the row of a record that takes it over is taken already, and has its id
  same_bits : row_for image words ids p < taken words → r ≡ Newer → bits words' ≡ bits words
  same_bits h e = (kept e).0 ∙ taken_stays (bits words) good.low (row_for image words ids p) h

  same_ids : row_for image words ids p < taken words → r ≡ Newer → ids' ≡ ids
  same_ids h e =
      (kept e).1
      ∙ set_same ids (row_for image words ids p) ((by_place image).id p) (position_found ((by_place image).id p) (taken words) ids (ids_room good.sized) h)

  -- a new row is the lowest free one
  lowest : row_for image words ids p ≡ taken words → row_for image words ids p ≡ first_zero (bits words)
  lowest e = e ∙ sym (low_first (bits words) good.low)

  sized_still : Sized words' ids' spots'
  sized_still = go (is_newer r) (ap length updates.words_are) (ap length updates.ids_are) (ap length updates.spots_are)
    where
      sizes : length (bits words') ≡ length (bits words) → length ids' ≡ length ids → length spots' ≡ length spots → Sized words' ids' spots'
      sizes w i s =
          let m : length words' ≡ length words = omega (arith, length_bits words, length_bits words') in
          record { few = rw m good.sized.few; ids_long = rw m (i ∙ good.sized.ids_long); spots_long = rw m (s ∙ good.sized.spots_long) }

      go : (b : Bool) → length (bits words') ≡ length (cond b (set (bits words) (row_for image words ids p) 1) (bits words))
          → length ids' ≡ length (cond b (set ids (row_for image words ids p) ((by_place image).id p)) ids)
          → length spots' ≡ length (cond b (set spots (row_for image words ids p) p) spots) → Sized words' ids' spots'
      go true w i s = sizes (w ∙ length-set (bits words) _ 1) (i ∙ length-set ids _ _) (s ∙ length-set spots _ p)
      go false w i s = sizes w i s

  -- the table may still be used
  pub updates_good : Lies image p → Good image words' ids' spots'
  updates_good lies = record { sized = sized_still; low = low way; lie = lie way }
    where
      low : Way image p words ids spots r → Low (bits words')
      low (over h l e) = rw (same_bits h e) good.low
      low (under h l e) = rw (left (ap is_newer e)).0 good.low
      low (new h m e) = next_low words words' (row_for image words ids p) good.low (lowest h) (omega arith) (kept e).0
      low (full h m e) = rw (left (ap is_newer e)).0 good.low

      stored : (m : ℕ) → ((i : ℕ) → i < m → i ≢ row_for image words ids p → i < taken words) → row_for image words ids p < length spots
          → AllLie image (set spots (row_for image words ids p) p) m
      stored m h b i l = at (ℕ_discrete i (row_for image words ids p))
        where
          at : Dec (i ≡ row_for image words ids p) → Lies image (get_or (set spots (row_for image words ids p) p) i 0)
          at (yes q) = rw (q, get_or-set_same spots (row_for image words ids p) p 0 b) lies
          at (no q) = rw (get_or-set_other spots (row_for image words ids p) i p 0 q) (good.lie i (h i l q))

      lie : Way image p words ids spots r → AllLie image spots' (taken words')
      lie (over h l e) = rw ((kept e).2, same_bits h e) (stored (taken words) (λ i b q. b) (omega (arith, spots_room good.sized)))
      lie (under h l e) = rw ((left (ap is_newer e)).2, (left (ap is_newer e)).0) good.lie
      lie (new h m e) =
          let t = next_total words words' (row_for image words ids p) good.low (lowest h) (omega arith) (kept e).0 in
          rw ((kept e).2, t) (stored (suc (taken words)) (λ i b q. omega arith) (omega (arith, good.sized.spots_long)))
      lie (full h m e) = rw ((left (ap is_newer e)).2, (left (ap is_newer e)).0) good.lie

  module _ (ps : List ℕ) (rows : Rows (by_place image) ps (taken words) ids spots) where
    -- and its rows are those of one record more, unless there was no row for it
    pub updates_rows : r ≢ Full → Rows (by_place image) (ps ++ (p ∷ [])) (taken words') ids' spots'
    updates_rows not_full = go way
      where
        go : Way image p words ids spots r → Rows (by_place image) (ps ++ (p ∷ [])) (taken words') ids' spots'
        go (over h l e) =
            rw (same_bits h e, same_ids h e, (kept e).2)
            (rows_newer (by_place image) ps p (taken words) (row_for image words ids p) ids spots rows (ids_room good.sized) (spots_room good.sized) refl h l)
        go (under h l e) =
            let s = left (ap is_newer e) in
            rw (s.0, s.1, s.2)
            (rows_older (by_place image) ps p (taken words) (row_for image words ids p) ids spots rows (ids_room good.sized) (spots_room good.sized) refl h l)
        go (new h m e) =
            let t = next_total words words' (row_for image words ids p) good.low (lowest h) (omega arith) (kept e).0 in
            rw (t, (kept e).1, (kept e).2, h)
            (rows_new (by_place image) ps p (taken words) (row_for image words ids p) ids spots rows (ids_room good.sized) (spots_room good.sized) refl
            (omega arith) (omega (arith, good.sized.ids_long)) (omega (arith, good.sized.spots_long)))
        go (full h m e) = absurd (not_full e)

    -- a record that counts now has a sequence greater than all before it of its id
    pub updates_newer : r ≡ Newer → (q : ℕ) → Memᴰ q ps → (by_place image).id q ≡ (by_place image).id p
        → (by_place image).sequence q < (by_place image).sequence p
    updates_newer is q m i = go way
      where
        go : Way image p words ids spots r → (by_place image).sequence q < (by_place image).sequence p
        go (over h l e) =
            let c = counted (by_place image) ps p (taken words) (row_for image words ids p) ids spots rows (ids_room good.sized) (spots_room good.sized) refl h in
            omega (arith, counting_top (by_place image) ps ((by_place image).id p) (get_or spots (row_for image words ids p) 0) c q m i)
        go (under h l e) = let z : ◌≡◌ {A = ℕ} 0 1 = cc in absurd (omega arith)
        go (new h l e) =
            let c = uncounted (by_place image) ps p (taken words) (row_for image words ids p) ids spots rows (ids_room good.sized) (spots_room good.sized) refl (omega arith) in
            absurd (counting_none (by_place image) ps ((by_place image).id p) c q m i)
        go (full h l e) = let z : ◌≡◌ {A = ℕ} 0 1 = cc in absurd (omega arith)

    -- where there is no row for it, there are more ids than places: refusal 5
    pub updates_full : r ≡ Full → capacity words < length (ids_of (by_place image) (ps ++ (p ∷ [])))
    updates_full is = go way
      where
        go : Way image p words ids spots r → capacity words < length (ids_of (by_place image) (ps ++ (p ∷ [])))
        go (over h l e) = let z : ◌≡◌ {A = ℕ} 0 1 = cc in absurd (omega arith)
        go (under h l e) = let z : ◌≡◌ {A = ℕ} 0 1 = cc in absurd (omega arith)
        go (new h l e) = let z : ◌≡◌ {A = ℕ} 0 1 = cc in absurd (omega arith)
        go (full h l e) =
            let c = ids_more (by_place image) ps p (taken words) (row_for image words ids p) ids spots rows (ids_room good.sized) (spots_room good.sized) refl (omega arith) in
            omega (arith, ap length c, length-append (take (taken words) ids) ((by_place image).id p ∷ []), length-take-le (taken words) ids (ids_room good.sized))
