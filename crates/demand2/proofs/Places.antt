-- Several records stored one after the other, where `place_all` says.
use Rattle.std.specs.Prelude.{ℕ, ◌+◌, ◌≤◌, ◌<◌, Bool, true, false, cond, not, ◌&&◌, ◌||◌, length, T, leb, ltb}
use Rattle.std.proofs.Math.Path.{◌≡◌, refl}
use Rattle.std.proofs.Common.{sym, ap, ◌∙◌, ⊎_elim, arith, leb→le, leb-true, leb-false}
use Rattle.std.proofs.Math.Option.{Option, none, some}
use mathlib.Core.List.Memᴰ
use mathlib.Core.List.{List, [], ◌∷◌, ◌++◌, append-nil, append_assoc, Memᴰ}
use Rattle.format.specs.Bytes.{Bytes}
use Rattle.format.specs.Record.{record_size}
use Rattle.format.specs.Reading.{Placed, area_free, area_clean}
use Rattle.format_laws.specs.Crc.{Octets}
use Rattle.volume.specs.Lists.{keep, all, bind}
use Rattle.volume_laws.specs.Tests.{true→T, not_is_false, or_is_false, and_T}
use Rattle.volume_laws.specs.Lists.{all_mem, keep_mem}
use Rattle.calls.specs.Image.{put}
use Rattle.calls.specs.Areas.{area_end, area_bytes, file_areas, good_area, good_areas, disjoint, all_disjoint, shortest_area, largest_image, most_areas}
use Rattle.calls.specs.Mount.{bad_description, records_of}
use Rattle.calls.specs.Storing.{Space, Fit, Store, spaces, keep_space, first_fit, prepend, place_all, store_all, no_place}
use Rattle.calls.specs.declared.Descriptor.{Descriptor}
use Rattle.calls_laws.specs.Storing.{kept_fit}
use Rattle.demand2.specs.Octet.{octets_put}
use Rattle.demand2.specs.Area.{Whole}
use Rattle.demand2.specs.Store.{SameHeaders, OneStored, free_place, RecordFits, FirstWithRoom}
use Rattle.demand2.proofs.Store.{same_area, one_stored, file_listed}
use Rattle.demand2.proofs.Store.{same_file_areas, same_clean, same_described}
use Rattle.demand2.specs.Places.{Distinct, Fitted, Written, all_written, written, AreaGrown}

pub distinct_keep : (f : Descriptor → Bool) (l : List Descriptor) → Distinct l → Distinct (keep f l)
unfolding keep
distinct_keep f [] h = tt
distinct_keep f (d ∷ l) h = go (f d) (distinct_keep f l h.1)
  where
    go : (b : Bool) → Distinct (keep f l) → Distinct (cond b (d ∷ keep f l) (keep f l))
    go true ih = ((λ m. h.0 (keep_mem f l m).0), ih)
    go false ih = ih

good_length : (size : ℕ) (d : Descriptor) → T (good_area size d) → (shortest_area ≤ d.length) × (d.length ≤ largest_image)
unfolding good_area
good_length size d g =
    let s = and_T (leb shortest_area d.length && leb d.length largest_image) (leb (area_end d) size) g in
    let t = and_T (leb shortest_area d.length) (leb d.length largest_image) s.0 in
    (leb→le shortest_area d.length t.0, leb→le d.length largest_image t.1)

-- an area overlaps itself
overlaps_itself : (size : ℕ) (d : Descriptor) → T (good_area size d) → ¬ T (disjoint d d)
unfolding disjoint
overlaps_itself size d g t = go (leb (area_end d) d.offset) refl t (good_length size d g).0
  where
    go : (b : Bool) → leb (area_end d) d.offset ≡ b → T (b || leb (area_end d) d.offset) → shortest_area ≤ d.length → ⊥
    go true e t l = omega (arith, leb→le (area_end d) d.offset (true→T e))
    go false e t l = omega (arith, leb→le (area_end d) d.offset t)

distinct : (size : ℕ) (l : List Descriptor) → T (all (good_area size) l) → T (all_disjoint l) → Distinct l
unfolding all_disjoint all
distinct size [] g t = tt
distinct size (d ∷ l) g t =
    let s = and_T (all (disjoint d) l) (all_disjoint l) t in
    let h = and_T (good_area size d) (all (good_area size) l) g in
    ((λ m. overlaps_itself size d h.0 (all_mem (disjoint d) l s.0 m)), distinct size l h.1 s.1)

-- what check 1 gives of all areas at once
well_described : (image : Bytes) (ds : List Descriptor) → bad_description image ds ≡ false
    → (length ds ≤ most_areas) × T (all (good_area (length image)) ds) × T (all_disjoint ds)
unfolding bad_description good_areas
well_described image ds described =
    let e = (or_is_false (ltb largest_image (length image)) (not (good_areas (length image) ds)) described).1 in
    let g = true→T (not_is_false (good_areas (length image) ds) e) in
    let s = and_T (leb 1 (length ds) && leb (length ds) most_areas && all (good_area (length image)) ds) (all_disjoint ds) g in
    let t = and_T (leb 1 (length ds) && leb (length ds) most_areas) (all (good_area (length image)) ds) s.0 in
    (leb→le (length ds) most_areas (and_T (leb 1 (length ds)) (leb (length ds) most_areas) t.0).1, t.1, s.1)

pub few_areas : (image : Bytes) (ds : List Descriptor) → bad_description image ds ≡ false → length ds ≤ most_areas
few_areas image ds described = (well_described image ds described).0

pub area_lengths : (image : Bytes) (ds : List Descriptor) → bad_description image ds ≡ false
    → (d : Descriptor) → Memᴰ d ds → (shortest_area ≤ d.length) × (d.length ≤ largest_image)
area_lengths image ds described d m =
    good_length (length image) d (all_mem (good_area (length image)) ds (well_described image ds described).1 m)

pub areas_distinct : (image : Bytes) (ds : List Descriptor) → bad_description image ds ≡ false → Distinct ds
areas_distinct image ds described = let w = well_described image ds described in distinct (length image) ds w.1 w.2

pub files_distinct : (image : Bytes) (ds : List Descriptor) → bad_description image ds ≡ false → Distinct (file_areas image ds)
unfolding file_areas
files_distinct image ds described = distinct_keep _ ds (areas_distinct image ds described)

-- spaces turn only on the bytes of their areas
spaces_same : (image image' : Bytes) (fs : List Descriptor) → ((d : Descriptor) → Memᴰ d fs → area_bytes image' d ≡ area_bytes image d)
    → spaces image' fs ≡ spaces image fs
unfolding spaces
spaces_same image image' [] h = refl
spaces_same image image' (d ∷ fs) h = rw (h d (Memᴰ.head refl), spaces_same image image' fs (λ e m. h e (Memᴰ.tail m)))

module _ (image : Bytes) (ds : List Descriptor) (described : bad_description image ds ≡ false) (b : Bytes) where
  pub first_fitted : (fs : List Descriptor) → Distinct fs → ((d : Descriptor) → Memᴰ d fs → Memᴰ d (file_areas image ds)) → (f : Fit)
      → first_fit (length b) (spaces image fs) ≡ some f → Fitted image ds fs b f
  unfolding first_fit spaces
  first_fitted [] n h f e = let z : ◌≡◌ {A = ℕ} 0 1 = cc in absurd (omega arith)
  first_fitted (d ∷ fs) n h f e = go (area_clean record_size (area_bytes image d)) refl (λ g. first_fitted fs n.1 (λ e m. h e (Memᴰ.tail m)) g) e
    where
      space : Space
      space = record { from = free_place image d; end = area_end d }

      listed : (e : Descriptor) → Memᴰ e (d ∷ fs) → Memᴰ e ds
      listed e m = file_listed image ds e (h e m)

      -- stored elsewhere, d is as it was
      untouched : (a : Descriptor) → Memᴰ a fs → RecordFits image ds a b → Whole record_size b
          → area_bytes (put image (free_place image a) b) d ≡ area_bytes image d
      untouched a m t w =
          (one_stored image ds described a b t w).elsewhere d (listed d (Memᴰ.head refl)) (λ q. n.0 (Memᴰ.cast q m))

      -- d was passed over
      later : (a : Descriptor) → (area_clean record_size (area_bytes image d) ≡ true → area_end d < free_place image d + length b)
          → FirstWithRoom image fs a b → FirstWithRoom image (d ∷ fs) a b
      later a short t = record {
        before = d ∷ t.before;
        behind = t.behind;
        split = ap (λ (l : List Descriptor). d ∷ l) t.split;
        no_room = λ e m c. ⊎_elim (λ q. rw q (short (rw q at c))) (λ k. t.no_room e k c) (Memᴰ.cases_cons m);
      }

      passed_over : (g : Fit) → area_clean record_size (area_bytes image d) ≡ false → Fitted image ds fs b g → Fitted image ds (d ∷ fs) b g
      passed_over g c t = record {
        area = t.area;
        among = Memᴰ.tail t.among;
        fits = t.fits;
        first = later t.area (λ k. absurd (rw c at (true→T k))) t.first;
        placed_at = t.placed_at;
        left_is = λ w. rw (untouched t.area t.among t.fits w, c) (t.left_is w);
      }

      too_short : (g : Fit) → area_clean record_size (area_bytes image d) ≡ true → area_end d < free_place image d + length b → Fitted image ds fs b g
          → f.place ≡ g.place → f.left ≡ space ∷ g.left
          → Fitted image ds (d ∷ fs) b f
      too_short g c short t p l = record {
        area = t.area;
        among = Memᴰ.tail t.among;
        fits = t.fits;
        first = later t.area (λ k. short) t.first;
        placed_at = p ∙ t.placed_at;
        left_is = λ w. rw (untouched t.area t.among t.fits w, c, l, t.left_is w);
      }

      taken : area_clean record_size (area_bytes image d) ≡ true → free_place image d + length b ≤ area_end d
          → f.place ≡ free_place image d → f.left ≡ record { from = free_place image d + length b; end = area_end d } ∷ spaces image fs
          → Fitted image ds (d ∷ fs) b f
      taken c r p l =
          let t : RecordFits image ds d b = record { file = h d (Memᴰ.head refl); clean = c; room = r } in
          record {
            area = d;
            among = Memᴰ.head refl;
            fits = t;
            first = record { before = []; behind = fs; split = refl; no_room = λ e m. absurd (Memᴰ.not-nil m) };
            placed_at = p;
            left_is = λ w.
                let s = one_stored image ds described d b t w in
                let k = spaces_same image (put image (free_place image d) b) fs
                (λ e m. s.elsewhere e (listed e (Memᴰ.tail m)) (λ q. n.0 (Memᴰ.cast (sym q) m))) in
                let z : d.offset + (area_free record_size (area_bytes image d) + length b) ≡ free_place image d + length b = omega arith in
                rw (s.clean, s.free, z, k, l);
          }

      roomy : (x : Bool) → leb (free_place image d + length b) (area_end d) ≡ x → area_clean record_size (area_bytes image d) ≡ true
          → ((g : Fit) → first_fit (length b) (spaces image fs) ≡ some g → Fitted image ds fs b g)
          → cond x
          (some (record { place = free_place image d; left = record { from = free_place image d + length b; end = area_end d } ∷ spaces image fs }))
          (keep_space space (first_fit (length b) (spaces image fs))) ≡ some f
          → Fitted image ds (d ∷ fs) b f
      roomy true r c ih e =
          let q : ◌≡◌ {A = Fit} (record {
            place = free_place image d;
            left = record { from = free_place image d + length b; end = area_end d } ∷
                spaces image fs;
          }) f = cc in
          taken c (leb-true _ _ r) (λ i. (sym q i).place) (λ i. (sym q i).left)
      roomy false r c ih e =
          let g = kept_fit space (first_fit (length b) (spaces image fs)) f e in
          too_short g.0 c (leb-false _ _ r) (ih g.0 g.1) g.2 g.3

      go : (x : Bool) → area_clean record_size (area_bytes image d) ≡ x
          → ((g : Fit) → first_fit (length b) (spaces image fs) ≡ some g → Fitted image ds fs b g)
          → first_fit (length b) (cond x (space ∷ spaces image fs) (spaces image fs)) ≡ some f → Fitted image ds (d ∷ fs) b f
      go true c ih e = roomy (leb (free_place image d + length b) (area_end d)) refl c ih e
      go false c ih e = passed_over f c (ih f e)

-- records of bytes, stored into bytes
pub octets_written : {ds : List Descriptor} {image image' : Bytes} {bs : List Bytes} → Written ds image bs image'
    → ((b : Bytes) → Memᴰ b bs → Octets b) → Octets image → Octets image'
octets_written all_written h o = o
octets_written {image = image} (written {b = b} area f t w rest) h o =
    octets_written rest (λ c m. h c (Memᴰ.tail m)) (octets_put image (free_place image area) b o (h b (Memᴰ.head refl)))

-- the file areas are those that were, with the headers that they had, and each is as clean as it was
module _ (ds : List Descriptor) where
  pub written_headers : {image image' : Bytes} {bs : List Bytes} → bad_description image ds ≡ false → Written ds image bs image'
      → SameHeaders image image' ds
  written_headers described all_written d m = refl
  written_headers {image} described (written {b = b} area f t w rest) d m =
      let s = one_stored image ds described area b f w in
      written_headers (same_described s ∙ described) rest d m ∙ s.headers d m

  pub written_areas : {image image' : Bytes} {bs : List Bytes} → bad_description image ds ≡ false → Written ds image bs image'
      → file_areas image' ds ≡ file_areas image ds
  written_areas described all_written = refl
  written_areas {image} described (written {b = b} area f t w rest) =
      let s = one_stored image ds described area b f w in
      written_areas (same_described s ∙ described) rest ∙ same_file_areas s

  pub written_clean : {image image' : Bytes} {bs : List Bytes} → bad_description image ds ≡ false → Written ds image bs image'
      → (d : Descriptor) → Memᴰ d ds → area_clean record_size (area_bytes image' d) ≡ area_clean record_size (area_bytes image d)
  written_clean described all_written d m = refl
  written_clean {image} described (written {b = b} area f t w rest) d m =
      let s = one_stored image ds described area b f w in
      written_clean (same_described s ∙ described) rest d m ∙ same_clean s f.clean d m

pub bound : {A B : Type 0} (o : Option A) (f : A → Option B) (b : B) → bind o f ≡ some b → (a : A) × (o ≡ some a) × (f a ≡ some b)
bound none f b e = let z : ◌≡◌ {A = ℕ} 0 1 = cc in absurd (omega arith)
bound (some a) f b e = (a, refl, e)

pub prepended : (s : Store) (o : Option (List Store)) (l : List Store) → prepend s o ≡ some l → (m : List Store) × (o ≡ some m) × (l ≡ s ∷ m)
prepended s none l e = let z : ◌≡◌ {A = ℕ} 0 1 = cc in absurd (omega arith)
prepended s (some m) l e = (m, refl, cc)

-- what `place_all` places is so stored
pub all_placed : (ds : List Descriptor) (image : Bytes) (bs : List Bytes) (l : List Store) → bad_description image ds ≡ false
    → ((b : Bytes) → Memᴰ b bs → Whole record_size b)
    → place_all (spaces image (file_areas image ds)) bs ≡ some l → Written ds image bs (store_all image l)
unfolding place_all store_all
all_placed ds image [] l d w e = let q : l ≡ [] = cc in rw q all_written
all_placed ds image (b ∷ bs) l d w e =
    let f = bound (first_fit (length b) (spaces image (file_areas image ds))) _ l e in
    let p = prepended _ (place_all f.0.left bs) l f.2 in
    go f.0 f.1 p.0 p.1 p.2 (λ y m. all_placed ds y bs m)
  where
    it : Whole record_size b
    it = w b (Memᴰ.head refl)

    at : (a : Descriptor) (p : ℕ) (m : List Store) → p ≡ free_place image a → RecordFits image ds a b → FirstWithRoom image (file_areas image ds) a b
        → Written ds (put image (free_place image a) b) bs (store_all (put image (free_place image a) b) m)
        → Written ds image (b ∷ bs) (store_all image (record { place = p; bytes = b } ∷ m))
    at a p m q t n ih = rw q (written a t n it ih)

    go : (f : Fit) → first_fit (length b) (spaces image (file_areas image ds)) ≡ some f
        → (m : List Store) → place_all f.left bs ≡ some m → l ≡ record { place = f.place; bytes = b } ∷ m
        → ((y : Bytes) (m : List Store) → bad_description y ds ≡ false → ((c : Bytes) → Memᴰ c bs → Whole record_size c)
        → place_all (spaces y (file_areas y ds)) bs ≡ some m → Written ds y bs (store_all y m))
        → Written ds image (b ∷ bs) (store_all image l)
    go f q m p r ih =
        let t = first_fitted image ds d b (file_areas image ds) (files_distinct image ds d) (λ e m. m) f q in
        let s = one_stored image ds d t.area b t.fits it in
        let y = put image (free_place image t.area) b in
        let after : spaces y (file_areas y ds) ≡ f.left = rw (same_file_areas s) (t.left_is it) in
        rw r (at t.area f.place m t.placed_at t.fits t.first
        (ih y m (same_described s ∙ d) (λ c m. w c (Memᴰ.tail m)) (rw after p)))

-- check 15 passed
pub place_found : (o : Option (List Store)) → no_place o ≡ false → (l : List Store) × (o ≡ some l)
place_found none z = let y : ◌≡◌ {A = ℕ} 0 1 = cc in absurd (omega arith)
place_found (some l) z = (l, refl)

pub areas_grown : (ds : List Descriptor) {image image' : Bytes} {bs : List Bytes} → bad_description image ds ≡ false → Written ds image bs image'
    → (d : Descriptor) → Memᴰ d ds → AreaGrown image image' d bs
areas_grown ds {image} described all_written d m =
    record { more = []; reads = sym (append-nil (records_of image d)); new = λ r k. absurd (Memᴰ.not-nil k) }
areas_grown ds {image} {image'} described (written {b = b} {bs = bs} area f t w rest) d m =
    go (same_area d area) (areas_grown ds (same_described s ∙ described) rest d m)
  where
    s : OneStored image (put image (free_place image area) b) ds area b
    s = one_stored image ds described area b f w

    here : Placed
    here = record { place = area_free record_size (area_bytes image area); bytes = b }

    one_more : d ≡ area → records_of (put image (free_place image area) b) d ≡ records_of image d ++ (here ∷ [])
    one_more e = rw e s.reads

    go : Dec (d ≡ area) → AreaGrown (put image (free_place image area) b) image' d bs → AreaGrown image image' d (b ∷ bs)
    go (yes e) g = record {
      more = here ∷ g.more;
      reads = g.reads ∙ ap (λ (l : List Placed). l ++ g.more) (one_more e) ∙ append_assoc (records_of image d) (here ∷ []) g.more;
      new = λ r k. ⊎_elim (λ q. Memᴰ.head (ap (λ (x : Placed). x.bytes) q)) (λ k. Memᴰ.tail (g.new r k)) (Memᴰ.cases_cons k);
    }
    go (no e) g = record {
      more = g.more;
      reads = g.reads ∙ rw (s.elsewhere d m e);
      new = λ r k. Memᴰ.tail (g.new r k);
    }
