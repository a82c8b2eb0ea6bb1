-- Records stored where `place_all` says: over erased bytes only, and no other byte is changed. Nothing is asked of the records: they may be any bytes.
use Rattle.std.specs.Prelude.{ℕ, zero, suc, ◌+◌, ◌-◌, ◌≤◌, ◌<◌, ◌≡◌, refl, Bool, true, false, cond, ◌&&◌, length, drop, eqb, leb}
use Rattle.std.proofs.Common.{sym, ap, ◌∙◌, ⊎_elim, arith, length-append, length-drop, get_or-append-add, get_or-drop, ext_get_or, eqb-true, leb-true}
use Rattle.std.proofs.Math.Option.{Option, none, some}
use mathlib.Core.List.Memᴰ
use mathlib.Core.List.{List, [], ◌∷◌, ◌++◌, map, append-nil, Memᴰ}
use Rattle.std.proofs.lemmas.List.{length-replicate, get_or-replicate}
use Rattle.format.specs.Bytes.{Bytes, byte_at}
use Rattle.format.specs.AreaHeader.{area_header_size}
use Rattle.format.specs.Record.{record_size}
use Rattle.format.specs.Reading.{ERASED, Part, taken, stretch, erased_end, free_size, area_parts, area_free, area_clean}
use Rattle.format_laws.specs.Record.{and_left, and_right}
use Rattle.format_laws.specs.Reading.{records_lawful, joined, part_bytes, parts_joined, erased_end_le}
use Rattle.volume.specs.Lists.{bind}
use Rattle.calls.specs.Image.{put, part, erased}
use Rattle.calls.specs.Areas.{area_end, area_bytes, file_areas}
use Rattle.calls.specs.Mount.{bad_description}
use Rattle.calls.specs.Storing.{Space, Fit, Store, spaces, keep_space, first_fit, prepend, place_all, store_all}
use Rattle.calls.specs.declared.Descriptor.{Descriptor}
use Rattle.calls_laws.specs.Checks.{area_fits}
use Rattle.calls_laws.specs.Storing.{kept_fit}
use Rattle.image_laws.specs.Laws.{length_put, byte_outside, part_length, part_byte}
use Rattle.demand2.specs.Store.{free_place}
use Rattle.demand2.proofs.Store.{file_listed, area_length}
use Rattle.demand2.specs.NewRecord.{WrittenOne}
use Rattle.demand2.proofs.NewRecord.{one_placed}
use Rattle.demand1.specs.Words.{ChangedOnly, InStore, OverErased, OnlyStored, OnlyOne}
use Rattle.demand1.specs.Stores.{Inside, InSome}

-- ---- free space is erased, in any area

erased_at : (s : Bytes) (i : ℕ) → length s - erased_end s ≤ i → i < length s → byte_at s i ≡ ERASED
unfolding erased_end
erased_at [] i h l = absurd (omega arith)
erased_at (b ∷ s) i h l = go (eqb (erased_end s) (length s) && eqb b ERASED) refl i h l (erased_at s)
  where
    go : (t : Bool) → (eqb (erased_end s) (length s) && eqb b ERASED) ≡ t → (i : ℕ) → suc (length s) - cond t (suc (erased_end s)) (erased_end s) ≤ i
        → i < suc (length s) → ((j : ℕ) → length s - erased_end s ≤ j → j < length s → byte_at s j ≡ ERASED) → byte_at (b ∷ s) i ≡ ERASED
    go true e zero h l ih = eqb-true b ERASED (and_right (eqb (erased_end s) (length s)) (eqb b ERASED) e)
    go true e (suc j) h l ih =
        let q = eqb-true (erased_end s) (length s) (and_left (eqb (erased_end s) (length s)) (eqb b ERASED) e) in
        ih j (omega arith) (omega arith)
    go false e zero h l ih = absurd (omega (arith, erased_end_le s))
    go false e (suc j) h l ih = ih j (omega (arith, erased_end_le s)) (omega arith)

free_le : (l : List Part) → free_size l ≤ length (joined l)
unfolding free_size joined
free_le [] = omega arith
free_le (stretch s ∷ []) = omega (arith, erased_end_le s, length-append s [])
free_le (taken r ∷ []) = omega arith
free_le (stretch s ∷ r ∷ l) = omega (arith, free_le (r ∷ l), length-append s (joined (r ∷ l)))
free_le (taken s ∷ r ∷ l) = omega (arith, free_le (r ∷ l), length-append s (joined (r ∷ l)))

free_at_lem : (l : List Part) (i : ℕ) → length (joined l) - free_size l ≤ i → i < length (joined l) → byte_at (joined l) i ≡ ERASED
unfolding free_size joined
free_at_lem [] i h l = absurd (omega arith)
free_at_lem (taken r ∷ []) i h l = absurd (omega arith)
free_at_lem (stretch s ∷ []) i h l =
    let e = append-nil s in
    rw e (erased_at s i (rw e at h) (rw e at l))
free_at_lem (q ∷ r ∷ l) i h g = behind (free_le (r ∷ l)) (free_at_lem (r ∷ l))
  where
    behind : free_size (r ∷ l) ≤ length (joined (r ∷ l))
        → ((j : ℕ) → length (joined (r ∷ l)) - free_size (r ∷ l) ≤ j → j < length (joined (r ∷ l)) → byte_at (joined (r ∷ l)) j ≡ ERASED)
        → byte_at (part_bytes q ++ joined (r ∷ l)) i ≡ ERASED
    behind f ih =
        let n = length-append (part_bytes q) (joined (r ∷ l)) in
        let j = i - length (part_bytes q) in
        let e : i ≡ length (part_bytes q) + j = omega arith in
        rw e (get_or-append-add (part_bytes q) (joined (r ∷ l)) j 0 ∙ ih j (omega arith) (omega arith))

-- from where free space starts up to the end every byte is erased
area_erased : (area : Bytes) → area_header_size ≤ length area → (j : ℕ) → area_free record_size area ≤ j → j < length area → byte_at area j ≡ ERASED
unfolding area_free area_parts
area_erased area long j h l =
    let ps = area_parts record_size area in
    let q : joined ps ≡ drop area_header_size area = parts_joined record_size records_lawful.inside (drop area_header_size area) 0 (omega arith) in
    let n = ap length q ∙ length-drop area_header_size area in
    let f = free_le ps in
    let e : area_header_size + (j - area_header_size) ≡ j = omega arith in
    ap (byte_at area) (sym e)
    ∙ sym (get_or-drop area_header_size area (j - area_header_size) 0)
    ∙ ap (λ (x : Bytes). byte_at x (j - area_header_size)) (sym q)
    ∙ free_at_lem ps (j - area_header_size) (omega arith) (omega arith)

-- ---- spaces, and what fits into them

-- "the first clean file area .. with room": a space of those there were; what is left of them lies in them
pub fit_inside : (n : ℕ) (ss : List Space) (f : Fit) → first_fit n ss ≡ some f
    → InSome ss f.place n × ((u : Space) → Memᴰ u f.left → (p m : ℕ) → Inside u p m → InSome ss p m)
unfolding first_fit
fit_inside n [] f e = let z : ◌≡◌ {A = ℕ} 0 1 = cc in absurd (omega arith)
fit_inside n (s ∷ ss) f e = go (leb (s.from + n) s.end) refl e (fit_inside n ss)
  where
    rest : Fit
    rest = record { place = s.from; left = record { from = s.from + n; end = s.end } ∷ ss }

    here : s.from + n ≤ s.end → rest ≡ f
        → InSome (s ∷ ss) f.place n × ((u : Space) → Memᴰ u f.left → (p m : ℕ) → Inside u p m → InSome (s ∷ ss) p m)
    here h q = rw (← q) (
      (s, Memᴰ.head refl, record { behind = omega arith; before_end = h }),
      λ u k p m i. ⊎_elim (λ w. (s, Memᴰ.head refl, first u w p m i)) (λ k. (u, Memᴰ.tail k, i)) (Memᴰ.cases_cons k),
    )
      where
        first : (u : Space) → u ≡ record { from = s.from + n; end = s.end } → (p m : ℕ) → Inside u p m → Inside s p m
        first u w p m i =
            let a : u.from ≡ s.from + n = λ j. (w j).from in
            let b : u.end ≡ s.end = λ j. (w j).end in
            record { behind = omega (arith, i.behind); before_end = omega (arith, i.before_end) }

    later : (g : Fit) → f.place ≡ g.place → f.left ≡ s ∷ g.left
        → InSome ss g.place n × ((u : Space) → Memᴰ u g.left → (p m : ℕ) → Inside u p m → InSome ss p m)
        → InSome (s ∷ ss) f.place n × ((u : Space) → Memᴰ u f.left → (p m : ℕ) → Inside u p m → InSome (s ∷ ss) p m)
    later g p l ih = rw (p, l) (
      (ih.0.0, Memᴰ.tail ih.0.1, ih.0.2),
      λ u k q m i. ⊎_elim (λ w. (s, Memᴰ.head refl, rw w at i)) (λ k. let t = ih.1 u k q m i in (t.0, Memᴰ.tail t.1, t.2))
          (Memᴰ.cases_cons k),
    )

    go : (b : Bool) → leb (s.from + n) s.end ≡ b → cond b (some rest) (keep_space s (first_fit n ss)) ≡ some f
        → ((g : Fit) → first_fit n ss ≡ some g
        → InSome ss g.place n × ((u : Space) → Memᴰ u g.left → (p m : ℕ) → Inside u p m → InSome ss p m))
        → InSome (s ∷ ss) f.place n × ((u : Space) → Memᴰ u f.left → (p m : ℕ) → Inside u p m → InSome (s ∷ ss) p m)
    go true t q ih = here (leb-true (s.from + n) s.end t) cc
    go false t q ih = let g = kept_fit s (first_fit n ss) f q in later g.0 g.2 g.3 (ih g.0 g.1)

-- all records placed: each in a space of those there were
record AllPlaced (ss : List Space) (bs : List Bytes) (l : List Store) : Type 0 where
  each : map (λ s. s.bytes) l ≡ bs
  inside : (s : Store) → Memᴰ s l → InSome ss s.place (length s.bytes)

all_placed : (bs : List Bytes) (ss : List Space) (l : List Store) → place_all ss bs ≡ some l → AllPlaced ss bs l
unfolding place_all
all_placed [] ss l e = let q : ◌≡◌ {A = List Store} [] l = cc in rw (← q) (record { each = refl; inside = λ s m. absurd (Memᴰ.not-nil m) })
all_placed (b ∷ bs) ss l e = go (first_fit (length b) ss) refl e (all_placed bs)
  where
    on : (f : Fit) → first_fit (length b) ss ≡ some f → (o : Option (List Store)) → ((m : List Store) → o ≡ some m → AllPlaced f.left bs m)
        → prepend (record { place = f.place; bytes = b }) o ≡ some l → AllPlaced ss (b ∷ bs) l
    on f q none ih z = let y : ◌≡◌ {A = ℕ} 0 1 = cc in absurd (omega arith)
    on f q (some m) ih z =
        let w : ◌≡◌ {A = List Store} (record { place = f.place; bytes = b } ∷ m) l = cc in
        let t = fit_inside (length b) ss f q in
        let r = ih m refl in
        rw (← w) (record {
          each = ap (λ (x : List Bytes). b ∷ x) r.each;
          inside = λ s k. ⊎_elim (λ e. rw e t.0) (λ k. let i = r.inside s k in t.1 i.0 i.1 s.place (length s.bytes) i.2)
              (Memᴰ.cases_cons k);
        })

    go : (o : Option Fit) → first_fit (length b) ss ≡ o
        → bind o (λ f. prepend (record { place = f.place; bytes = b }) (place_all f.left bs)) ≡ some l
        → ((ss : List Space) (m : List Store) → place_all ss bs ≡ some m → AllPlaced ss bs m) → AllPlaced ss (b ∷ bs) l
    go none q z ih = let y : ◌≡◌ {A = ℕ} 0 1 = cc in absurd (omega arith)
    go (some f) q z ih = on f q (place_all f.left bs) (ih f.left) z

-- the spaces of an image are the free space of its clean file areas
pub space_of : (image : Bytes) (fs : List Descriptor) (s : Space) → Memᴰ s (spaces image fs)
    → (d : Descriptor) × Memᴰ d fs × (area_clean record_size (area_bytes image d) ≡ true)
    × (s ≡ record { from = free_place image d; end = area_end d })
unfolding spaces
space_of image [] s m = absurd (Memᴰ.not-nil m)
space_of image (d ∷ fs) s m = go (area_clean record_size (area_bytes image d)) refl m (space_of image fs s)
  where
    its_space : Space
    its_space = record { from = free_place image d; end = area_end d }

    go : (b : Bool) → area_clean record_size (area_bytes image d) ≡ b → Memᴰ s (cond b (its_space ∷ spaces image fs) (spaces image fs))
        → (Memᴰ s (spaces image fs) → (d : Descriptor) × Memᴰ d fs × (area_clean record_size (area_bytes image d) ≡ true)
        × (s ≡ record { from = free_place image d; end = area_end d }))
        → (e : Descriptor) × Memᴰ e (d ∷ fs) × (area_clean record_size (area_bytes image e) ≡ true)
        × (s ≡ record { from = free_place image e; end = area_end e })
    go true c m ih = ⊎_elim (λ q. (d, Memᴰ.head refl, c, q)) (λ k. let t = ih k in (t.0, Memᴰ.tail t.1, t.2, t.3))
        (Memᴰ.cases_cons m)
    go false c m ih = let t = ih m in (t.0, Memᴰ.tail t.1, t.2, t.3)

-- ---- the image afterwards

stores_change : (l : List Store) (image : Bytes) → ((s : Store) → Memᴰ s l → s.place + length s.bytes ≤ length image)
    → ChangedOnly (λ i. (s : Store) × Memᴰ s l × InStore s i) image (store_all image l)
unfolding store_all
stores_change [] image h = record { one_length = refl; others_kept = λ i n. refl }
stores_change (s ∷ l) image h = go (stores_change l (put image s.place s.bytes))
  where
    fits : s.place + length s.bytes ≤ length image
    fits = h s (Memᴰ.head refl)

    long : length (put image s.place s.bytes) ≡ length image
    long = length_put image s.place s.bytes fits

    go : (((t : Store) → Memᴰ t l → t.place + length t.bytes ≤ length (put image s.place s.bytes))
        → ChangedOnly (λ i. (t : Store) × Memᴰ t l × InStore t i) (put image s.place s.bytes)
        (store_all (put image s.place s.bytes) l))
        → ChangedOnly (λ i. (t : Store) × Memᴰ t (s ∷ l) × InStore t i) image (store_all (put image s.place s.bytes) l)
    go ih =
        let c = ih (λ t m. rw long (h t (Memᴰ.tail m))) in
        record {
          one_length = c.one_length ∙ long;
          others_kept = λ i n. c.others_kept i (λ x. n (x.0, Memᴰ.tail x.1, x.2))
              ∙ byte_outside image s.place s.bytes fits i (λ j f e. n (s, Memᴰ.head refl, (omega arith, omega arith)));
        }

module _ (image : Bytes) (ds : List Descriptor) (described : bad_description image ds ≡ false) where
  -- a store into the free space of a clean file area
  free_erased : (s : Store) (d : Descriptor) → Memᴰ d (file_areas image ds) → area_clean record_size (area_bytes image d) ≡ true
      → Inside (record { from = free_place image d; end = area_end d }) s.place (length s.bytes) → OverErased image ds s
  free_erased s d f c k = record { area = d; file = f; clean = c; in_free = (k.behind, k.before_end); were_erased = was }
    where
      h : (area_header_size ≤ d.length) × (area_end d ≤ length image)
      h = area_fits image ds described d (file_listed image ds d f)

      long : length (area_bytes image d) ≡ d.length
      long = area_length image d h.1

      -- the byte at j of the area
      byte : (j : ℕ) → free_place image d ≤ d.offset + j → j < d.length → byte_at image (d.offset + j) ≡ ERASED
      byte j a b = sym (part_byte image d.offset d.length j b)
          ∙ area_erased (area_bytes image d) (omega (arith, long, h.0)) j (omega arith) (omega (arith, long))

      was : part image s.place (length s.bytes) ≡ erased (length s.bytes)
      was =
          let n = part_length image s.place (length s.bytes) (omega (arith, k.before_end, h.1)) in
          ext_get_or 0 (part image s.place (length s.bytes)) (erased (length s.bytes))
          (n ∙ sym (length-replicate (length s.bytes) ERASED))
          (λ i g.
          let l : i < length s.bytes = omega arith in
          let j = s.place + i - d.offset in
          let e : d.offset + j ≡ s.place + i = omega (arith, k.behind) in
          part_byte image s.place (length s.bytes) i l
          ∙ ap (byte_at image) (sym e)
          ∙ byte j (omega (arith, k.behind)) (omega (arith, k.before_end))
          ∙ sym (get_or-replicate (length s.bytes) i ERASED 0 l))

  space_erased : (s : Store) → InSome (spaces image (file_areas image ds)) s.place (length s.bytes) → OverErased image ds s
  space_erased s i =
      let t = space_of image (file_areas image ds) i.0 i.1 in
      free_erased s t.0 t.1 t.2 (rw t.3 at i.2)

  -- records placed and stored
  pub only_stored : (bs : List Bytes) (l : List Store) → place_all (spaces image (file_areas image ds)) bs ≡ some l
      → OnlyStored image (store_all image l) ds bs
  only_stored bs l e =
      let a = all_placed bs (spaces image (file_areas image ds)) l e in
      record {
        stores = l;
        each = a.each;
        over_erased = λ s m. space_erased s (a.inside s m);
        changed = stores_change l image (λ s m. inside s (space_erased s (a.inside s m)));
      }
    where
      inside : (s : Store) → OverErased image ds s → s.place + length s.bytes ≤ length image
      inside s o = omega (arith, o.in_free.1, (area_fits image ds described o.area (file_listed image ds o.area o.file)).1)

  -- one record alone
  pub only_one : (b : Bytes) (l : List Store) → place_all (spaces image (file_areas image ds)) (b ∷ []) ≡ some l → OnlyOne image (store_all image l) ds b
  only_one b l e = at (one_placed image ds described b l e)
    where
      at : WrittenOne image (store_all image l) ds b → OnlyOne image (store_all image l) ds b
      at w =
          let s : Store = record { place = free_place image w.area; bytes = b } in
          let k = area_fits image ds described w.area (file_listed image ds w.area w.fits.file) in
          let h : free_place image w.area + length b ≤ length image = omega (arith, w.fits.room, k.1) in
          let o = free_erased s w.area w.fits.file w.fits.clean (record { behind = omega arith; before_end = w.fits.room }) in
          record {
            written = w;
            were_erased = o.were_erased;
            changed = rw w.image_is (record {
              one_length = length_put image (free_place image w.area) b h;
              others_kept = λ i n. byte_outside image (free_place image w.area) b h i (λ j f e. n (omega arith, omega arith));
            });
          }
