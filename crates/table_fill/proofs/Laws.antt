-- The tables of a volume with one record more, and the loop that gathers the records. A law is said of a kind, for both.
use Rattle.std.specs.Prelude.{ℕ, ◌+◌, ◌-◌, ◌*◌, ◌≤◌, ◌<◌, ◌≡◌, ◌≢◌, Bool, cond, ◌||◌, length, take, drop, get_or, replicate, ltb}
use Rattle.std.proofs.Math.Path.{refl}
use Rattle.std.proofs.Common.{sym, subst, ◌∙◌, arith, add-one, take-suc, take-add, get_or-take, length-take-le, lt-ltb, le-ltb}
use Rattle.std.proofs.Math.Bool.{true, false, not}
use mathlib.Core.List.Memᴰ
use mathlib.Core.List.{List, [], ◌∷◌, ◌++◌, append-nil, Memᴰ}
use Rattle.format.specs.Bytes.{Bytes}
use Rattle.volume.specs.Lists.{keep, all}
use Rattle.volume.specs.View.{View}
use Rattle.volume.specs.Counting.{Volume, volume_of, all_agree, ids_of}
use Rattle.volume_laws.specs.Lists.{keep_append, keep_mem, mem_keep, get_or_mem}
use Rattle.volume_laws.specs.Counting.{fewer_ids}
use Rattle.record_places.specs.Place.{block_at, by_place, Lies, AllLie}
use Rattle.table_words.specs.Occupancy.{capacity, most_words}
use Rattle.table_words.specs.Laws.{total_within, fresh_total}
use Rattle.table_rows.specs.Table.{taken, Updates}
use Rattle.table_rows.specs.Laws.{ids_room, rows_number, empty_rows, fresh_good, updates_good, updates_rows, updates_newer, updates_full}
use Rattle.table_rows.specs.declared.Updated.{Updated}
use Rattle.table_rows.specs.declared.Updated.TheVariants.{Newer, Older, Full}
use Rattle.table_fill.specs.Gather.{Table, Tables, tables, table_of, records_of, TableGood, TableRows, AllGood, AllRows, SameKind, Tabulates, overfull, Ready, Gathered}
use Rattle.table_fill.specs.Agreement.{places_equivalent, newer_agrees}
use Rattle.table_fill.specs.Laws.{SameSize, SameSizes, Going}

-- ---- of each kind

pub good_of : {image : Bytes} {t : Tables} → AllGood image t → (b : Bool) → TableGood image (table_of b t)
good_of g true = g.blocks
good_of g false = g.inodes

pub rows_of : {F : View ℕ} {v : Volume ℕ} {t : Tables} → AllRows F v t → (b : Bool) → TableRows F (records_of b v) (table_of b t)
rows_of w true = w.blocks
rows_of w false = w.inodes

-- a kind, or the other
by_kind : (b : Bool) (X : Bool → Type 0) → X b → X (not b) → (c : Bool) → X c
by_kind true X x y true = x
by_kind true X x y false = y
by_kind false X x y true = y
by_kind false X x y false = x

module _ (F : View ℕ) where
  -- one record more belongs to its kind, and not to the other
  own_kind : (ps : List ℕ) (p : ℕ) (b : Bool) → F.is_block p ≡ b → records_of b (volume_of F (ps ++ (p ∷ []))) ≡ records_of b (volume_of F ps) ++ (p ∷ [])
  unfolding volume_of keep
  own_kind ps p true e = rw (keep_append, e)
  own_kind ps p false e = rw (keep_append, e)

  other_kind_lem : (ps : List ℕ) (p : ℕ) (b : Bool) → F.is_block p ≡ b → records_of (not b) (volume_of F (ps ++ (p ∷ []))) ≡ records_of (not b) (volume_of F ps)
  unfolding volume_of keep
  other_kind_lem ps p true e = rw (keep_append, e, append-nil)
  other_kind_lem ps p false e = rw (keep_append, e, append-nil)

  kind_mem : (ps : List ℕ) (q : ℕ) (b : Bool) → Memᴰ q ps → F.is_block q ≡ b → Memᴰ q (records_of b (volume_of F ps))
  unfolding volume_of
  kind_mem ps q true m e = mem_keep F.is_block ps m (rw e tt)
  kind_mem ps q false m e = mem_keep (λ r. not (F.is_block r)) ps m (rw e tt)

  -- more records have no fewer ids of a kind
  kind_more : (xs ys : List ℕ) (b : Bool) (q : ℕ) → Memᴰ q (records_of b (volume_of F xs)) → Memᴰ q (records_of b (volume_of F (xs ++ ys)))
  unfolding volume_of
  kind_more xs ys true q m =
      let k = keep_mem F.is_block xs m in
      mem_keep F.is_block (xs ++ ys) (Memᴰ.append_left ys k.0) k.1
  kind_more xs ys false q m =
      let k = keep_mem (λ r. not (F.is_block r)) xs m in
      mem_keep (λ r. not (F.is_block r)) (xs ++ ys) (Memᴰ.append_left ys k.0) k.1

  more_ids : (xs ys : List ℕ) (b : Bool) → length (ids_of F (records_of b (volume_of F xs))) ≤ length (ids_of F (records_of b (volume_of F (xs ++ ys))))
  more_ids xs ys b = fewer_ids F (records_of b (volume_of F (xs ++ ys))) (records_of b (volume_of F xs)) (kind_more xs ys b)

  -- refusal 5, by the kind that has too many ids, or by neither
  overfull_by : (t : Tables) (v : Volume ℕ) (b : Bool) → capacity (table_of b t).words < length (ids_of F (records_of b v)) → overfull t F v ≡ true
  overfull_by t v false h = rw (lt-ltb (capacity t.inodes.words) (length (ids_of F v.inodes)) h)
  overfull_by t v true h = rw (lt-ltb (capacity t.blocks.words) (length (ids_of F v.blocks)) h) (go (ltb (capacity t.inodes.words) (length (ids_of F v.inodes))))
    where
      go : (a : Bool) → (a || true) ≡ true
      go true = refl
      go false = refl

  room_for : (t : Tables) (v : Volume ℕ) → ((b : Bool) → length (ids_of F (records_of b v)) ≤ capacity (table_of b t).words) → overfull t F v ≡ false
  room_for t v h =
      rw (
        le-ltb (capacity t.inodes.words) (length (ids_of F v.inodes)) (h false),
        le-ltb (capacity t.blocks.words) (length (ids_of F v.blocks)) (h true),
      )

-- ---- tables whose words are all zero

-- they are ready for the places of whole records, whatever their ids and spots are
pub fresh_ready : (image : Bytes) (places : List ℕ) (n a b : ℕ) (ii is bi bs : List ℕ) → a ≤ most_words → b ≤ most_words
    → length ii ≡ a * 64 → length is ≡ a * 64 → length bi ≡ b * 64 → length bs ≡ b * 64
    → n ≤ length places → AllLie image places n → SameKind (by_place image) (take n places)
    → Ready image places n (tables (replicate a 0) ii is (replicate b 0) bi bs)
fresh_ready image places n a b ii is bi bs fa fb lii lis lbi lbs count lie kinds = record {
  count = count;
  lie = lie;
  kinds = kinds;
  good = record { inodes = fresh_good a ii is image fa lii lis; blocks = fresh_good b bi bs image fb lbi lbs };
  no_inode = fresh_total a;
  no_block = fresh_total b;
}

-- ---- a record shown to the table of its kind

module _ (image : Bytes) (p : ℕ) (t : Tables) (r : Updated) where
  pub tabulates_block : (u : Table) → block_at image p ≡ true
      → Updates image p t.blocks.words t.blocks.ids t.blocks.spots r u.words u.ids u.spots
      → Tabulates image p t r (record { inodes = t.inodes; blocks = u })
  tabulates_block u e k = record { shown = rw e k; other = rw e }

  pub tabulates_inode : (u : Table) → block_at image p ≡ false
      → Updates image p t.inodes.words t.inodes.ids t.inodes.spots r u.words u.ids u.spots
      → Tabulates image p t r (record { inodes = u; blocks = t.blocks })
  tabulates_inode u e k = record { shown = rw e k; other = rw e }

module _ (image : Bytes) (p : ℕ) (t : Tables) (r : Updated) (t' : Tables) (good : AllGood image t) (tabulates : Tabulates image p t r t') where
  -- both tables may still be used
  pub tabulates_good : Lies image p → AllGood image t'
  tabulates_good lies = record { inodes = each false; blocks = each true }
    where
      each : (b : Bool) → TableGood image (table_of b t')
      each = by_kind (block_at image p) (λ b. TableGood image (table_of b t'))
          (updates_good image p _ _ _ r _ _ _ (good_of good (block_at image p)) tabulates.shown lies)
          (subst (λ (u : Table). TableGood image u) (sym tabulates.other) (good_of good (not (block_at image p))))

  module _ (ps : List ℕ) (rows : AllRows (by_place image) (volume_of (by_place image) ps) t) where
    -- and hold one record more, unless there was no row for it
    pub tabulates_rows : r ≢ Full → AllRows (by_place image) (volume_of (by_place image) (ps ++ (p ∷ []))) t'
    tabulates_rows not_full = record { inodes = each false; blocks = each true }
      where
        each : (b : Bool) → TableRows (by_place image) (records_of b (volume_of (by_place image) (ps ++ (p ∷ [])))) (table_of b t')
        each = by_kind (block_at image p) (λ b. TableRows (by_place image) (records_of b (volume_of (by_place image) (ps ++ (p ∷ [])))) (table_of b t'))
            (rw (own_kind (by_place image) ps p (block_at image p) refl)
            (updates_rows image p _ _ _ r _ _ _ (good_of good (block_at image p)) tabulates.shown _ (rows_of rows (block_at image p)) not_full))
            (rw (other_kind_lem (by_place image) ps p (block_at image p) refl)
            (subst (λ (u : Table). TableRows (by_place image) (records_of (not (block_at image p)) (volume_of (by_place image) ps)) u) (sym tabulates.other)
            (rows_of rows (not (block_at image p)))))

    -- a record that counts now changes nothing of check 6
    pub tabulates_newer : r ≡ Newer → ((q : ℕ) → Memᴰ q ps → (by_place image).id q ≡ (by_place image).id p → block_at image q ≡ block_at image p)
        → all_agree (by_place image) (ps ++ (p ∷ [])) ≡ all_agree (by_place image) ps
    tabulates_newer is kinds = newer_agrees (by_place image) (places_equivalent image) ps p (λ q m e.
        updates_newer image p _ _ _ r _ _ _ (good_of good (block_at image p)) tabulates.shown _ (rows_of rows (block_at image p)) is q
        (kind_mem (by_place image) ps q (block_at image p) m (kinds q m e)) e)

    -- where there is no row for it, its kind has too many ids
    pub tabulates_full : r ≡ Full → capacity (table_of (block_at image p) t).words < length (ids_of (by_place image) (records_of (block_at image p) (volume_of (by_place image) (ps ++ (p ∷ [])))))
    tabulates_full is = rw (own_kind (by_place image) ps p (block_at image p) refl)
        (updates_full image p _ _ _ r _ _ _ (good_of good (block_at image p)) tabulates.shown _ (rows_of rows (block_at image p)) is)

-- ---- the loop

-- what stands among the first n
pub get_d_in : (n : ℕ) (l : List ℕ) (i : ℕ) → i < n → n ≤ length l → Memᴰ (get_or l i 0) (take n l)
get_d_in n l i h g = Memᴰ.cast (sym (get_or-take n l i 0 h)) (get_or_mem (take n l) i 0 (omega (arith, length-take-le n l g)))

-- the first n are the first i and others
split : (l : List ℕ) (i n : ℕ) → i ≤ n → take n l ≡ take i l ++ take (n - i) (drop i l)
split l i n h = let e : i + (n - i) ≡ n = omega arith in rw e at (take-add i (n - i) l)

one_more : (l : List ℕ) (i : ℕ) → i < length l → take (i + 1) l ≡ take i l ++ (get_or l i 0 ∷ [])
one_more l i h = rw add-one (take-suc l i 0 h)

size_trans : {t u v : Table} → SameSize t u → SameSize u v → SameSize t v
size_trans x y = record { words = x.words ∙ y.words; ids = x.ids ∙ y.ids; spots = x.spots ∙ y.spots }

pub sizes_trans : {t u v : Tables} → SameSizes t u → SameSizes u v → SameSizes t v
sizes_trans x y = record { inodes = size_trans x.inodes y.inodes; blocks = size_trans x.blocks y.blocks }

same_capacity : {t u : Tables} → SameSizes t u → (b : Bool) → capacity (table_of b t).words ≡ capacity (table_of b u).words
same_capacity x true = rw x.blocks.words
same_capacity x false = rw x.inodes.words

module _ (image : Bytes) (places : List ℕ) (n : ℕ) (t₀ : Tables) (ready : Ready image places n t₀) where
  pub going_start : Going image places n t₀ t₀ true 0
  unfolding volume_of keep all_agree all
  going_start = record {
    within = omega arith;
    sizes = record { inodes = record { words = refl; ids = refl; spots = refl }; blocks = record { words = refl; ids = refl; spots = refl } };
    good = ready.good;
    rows = record {
      inodes = empty_rows (by_place image) _ t₀.inodes.ids t₀.inodes.spots ready.no_inode;
      blocks = empty_rows (by_place image) _ t₀.blocks.ids t₀.blocks.spots ready.no_block;
    };
    agreed_is = refl;
  }

  -- the record at the place i is shown to the tables
  module _ (t t' : Tables) (agreed : Bool) (i : ℕ) (r : Updated) (going : Going image places n t₀ t agreed i) (h : i < n)
      (sizes : SameSizes t' t) (tabulates : Tabulates image (get_or places i 0) t r t') where
    more : take (i + 1) places ≡ take i places ++ (get_or places i 0 ∷ [])
    more = one_more places i (omega (arith, ready.count))

    kinds : (q : ℕ) → Memᴰ q (take i places) → (by_place image).id q ≡ (by_place image).id (get_or places i 0)
        → block_at image q ≡ block_at image (get_or places i 0)
    kinds q m = ready.kinds q (get_or places i 0)
        (rw (split places i n going.within) (Memᴰ.append_left (take (n - i) (drop i places)) m)) (get_d_in n places i h ready.count)

    next : r ≢ Full → (g : Bool) → g ≡ all_agree (by_place image) (take i places ++ (get_or places i 0 ∷ [])) → Going image places n t₀ t' g (i + 1)
    next not_full g e = record {
      within = omega arith;
      sizes = sizes_trans sizes going.sizes;
      good = tabulates_good image (get_or places i 0) t r t' going.good tabulates (ready.lie i h);
      rows = rw more (tabulates_rows image (get_or places i 0) t r t' going.good tabulates (take i places) going.rows not_full);
      agreed_is = rw more e;
    }

    pub going_newer : r ≡ Newer → Going image places n t₀ t' agreed (i + 1)
    going_newer is = next (λ e. let z : ◌≡◌ {A = ℕ} 0 1 = cc in omega arith) agreed
        (going.agreed_is ∙ sym (tabulates_newer image (get_or places i 0) t r t' going.good tabulates (take i places) going.rows is kinds))

    pub going_older : r ≡ Older → (g : Bool) → g ≡ all_agree (by_place image) (take i places ++ (get_or places i 0 ∷ [])) → Going image places n t₀ t' g (i + 1)
    going_older is g e = next (λ e. let z : ◌≡◌ {A = ℕ} 0 1 = cc in omega arith) g e

    pub going_full : r ≡ Full → Gathered image (take n places) t₀ 5 t'
    going_full is = record {
      number = sym (rw (overfull_by F t₀ (volume_of F (take n places)) (block_at image (get_or places i 0)) many));
      good = tabulates_good image (get_or places i 0) t r t' going.good tabulates (ready.lie i h);
      rows = λ z. absurd (omega arith);
    }
      where
        F : View ℕ
        F = by_place image

        many : capacity (table_of (block_at image (get_or places i 0)) t₀).words < length (ids_of F (records_of (block_at image (get_or places i 0)) (volume_of F (take n places))))
        many =
            let b = block_at image (get_or places i 0) in
            let s = tabulates_full image (get_or places i 0) t r t' going.good tabulates (take i places) going.rows is in
            let c = same_capacity going.sizes b in
            let m = more_ids F (take (i + 1) places) (take (n - (i + 1)) (drop (i + 1) places)) b in
            rw (split places (i + 1) n (omega arith)) (omega (arith, rw (← more) at s))

  -- all records are in the tables
  pub going_end : (t : Tables) (agreed : Bool) (i r : ℕ) → Going image places n t₀ t agreed i → n ≤ i → r ≡ cond agreed 0 6 → Gathered image (take n places) t₀ r t
  going_end t agreed i r going h e = record {
    number = rw (room_for F t₀ (volume_of F (take n places)) room, ← agreed_is) e;
    good = going.good;
    rows = λ z. rows;
  }
    where
      F : View ℕ
      F = by_place image

      rows : AllRows F (volume_of F (take n places)) t
      rows = let q : i ≡ n = omega (arith, going.within) in rw q at going.rows

      agreed_is : agreed ≡ all_agree F (take n places)
      agreed_is = let q : i ≡ n = omega (arith, going.within) in rw q at going.agreed_is

      room : (b : Bool) → length (ids_of F (records_of b (volume_of F (take n places)))) ≤ capacity (table_of b t₀).words
      room b =
          let m = rows_number F (records_of b (volume_of F (take n places))) (taken (table_of b t).words) (table_of b t).ids (table_of b t).spots (rows_of rows b) (ids_room (good_of going.good b).sized) in
          omega (arith, total_within (table_of b t).words, same_capacity going.sizes b)
