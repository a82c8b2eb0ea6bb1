-- The places of the source and those elsewhere: the records of the source, and those of the other file areas.
use Rattle.std.specs.Prelude.{ℕ, ◌≤◌, ◌<◌, ◌≡◌, Bool, not, ◌&&◌, drop, T, leb}
use Rattle.std.proofs.Math.Path.{refl}
use Rattle.std.proofs.Common.{sym, ◌∙◌, inl, inr, arith, length-take, length-drop}
use Rattle.std.proofs.Math.Logic.{⊎_elim}
use Rattle.std.proofs.Math.Bool.{true, false}
use mathlib.Core.List.Memᴰ
use mathlib.Core.List.{List, [], ◌∷◌, map, append-nil, Memᴰ}
use borrow.Author.Tests.{le-leb, lt-leb, lt-ltb, le-ltb, ne_eqb, eq-eqb}
use Rattle.format.specs.Bytes.{Bytes}
use Rattle.format.specs.AreaHeader.{area_header_size}
use Rattle.format.specs.Record.{record_size}
use Rattle.format.specs.Reading.{Placed}
use Rattle.format_laws.specs.Record.{record_inside}
use Rattle.format_laws.specs.Reading.{records_lawful}
use Rattle.format_laws.specs.Taken.{records_from_lem, from_each}
use Rattle.volume.specs.Lists.{keep}
use Rattle.volume_laws.specs.Lists.{keep_append, keep_none, keep_whole}
use Rattle.calls.specs.Areas.{area_end, area_bytes, all_disjoint, file_areas}
use Rattle.calls.specs.Mount.{records_of, bytes_of, records_in, volume}
use Rattle.calls.specs.Collect.{is_other, records_elsewhere, copies}
use Rattle.calls.specs.declared.Descriptor.{Descriptor}
use Rattle.record_places.specs.Place.{bytes_at, by_place}
use Rattle.area_list.specs.Places.{Clear, clear_sym, split_first}
use Rattle.area_pass.specs.Listing.{record_places, places_in}
use Rattle.area_pass.specs.Bridge.{record_places_each, places_bytes, placed_volume, volume_places}
use Rattle.collect_copies.specs.Copied.{Tables, AllRows, inside, copied_places}
use Rattle.collect_copies.specs.Tests.{copies_are}

-- ---- one area

module _ (image : Bytes) where
  -- a record starts in the area that it is read in
  starts_in_lem : (d : Descriptor) (r : Placed) → Memᴰ r (records_of image d) → r.place < d.length
  starts_in_lem d r m =
      let k = from_each record_size records_lawful (area_bytes image d) area_header_size r (rw (records_from_lem record_size (area_bytes image d)) at m) in
      omega (
        arith,
        k.accepted,
        record_inside (drop r.place (area_bytes image d)),
        length-drop r.place (area_bytes image d),
        length-take d.length (drop d.offset image),
      )

  pub in_area : (d : Descriptor) (p : ℕ) → Memᴰ p (record_places d.offset (records_of image d)) → (d.offset ≤ p) × (p < area_end d)
  in_area d p m =
      let r = record_places_each d.offset p (records_of image d) m in
      let e = r.2 in
      let h = starts_in_lem d r.0 r.1 in
      (omega arith, omega arith)

  in_areas : (fs : List Descriptor) (p : ℕ) → Memᴰ p (places_in image fs) → (d : Descriptor) × Memᴰ d fs × (d.offset ≤ p) × (p < area_end d)
  unfolding places_in
  in_areas [] p m = absurd (Memᴰ.not-nil m)
  in_areas (d ∷ fs) p m =
      ⊎_elim (λ k. let r = in_area d p k in (d, Memᴰ.head refl, r.0, r.1))
      (λ k. let r = in_areas fs p k in (r.0, Memᴰ.tail r.1, r.2, r.3))
      (Memᴰ.append_cases (record_places d.offset (records_of image d)) m)

-- a place in the source, and one in an area apart from it
module _ (s : Descriptor) (p : ℕ) where
  inside_own : s.offset ≤ p → p < area_end s → inside s.offset s.length p ≡ true
  unfolding inside
  inside_own h g = rw (le-leb s.offset p h, lt-ltb p (area_end s) g)

  inside_not : (d : Descriptor) → Clear d s → d.offset ≤ p → p < area_end d → inside s.offset s.length p ≡ false
  unfolding inside
  inside_not d (inl c) h g = rw (lt-leb s.offset p (omega arith))
  inside_not d (inr c) h g = rw (le-ltb p (area_end s) (omega arith)) (go (leb s.offset p))
    where
      go : (b : Bool) → (b && false) ≡ false
      go true = refl
      go false = refl

-- ---- all areas

other_apart : (s d : Descriptor) → Clear d s → 0 < d.length → 0 < s.length → is_other s d ≡ true
unfolding is_other
other_apart s d (inl c) h g = rw (ne_eqb s.offset d.offset (λ e. omega arith))
other_apart s d (inr c) h g = rw (ne_eqb s.offset d.offset (λ e. omega arith))

module _ (image : Bytes) (s : Descriptor) where
  abbrev near : ℕ → Bool
  near = inside s.offset s.length

  abbrev far : ℕ → Bool
  far p = not (inside s.offset s.length p)

  -- areas that are all apart from the source
  module _ (fs : List Descriptor) (apart : (e : Descriptor) → Memᴰ e fs → Clear e s) where
    none_near : (p : ℕ) → Memᴰ p (places_in image fs) → near p ≡ false
    none_near p m = let r = in_areas image fs p m in inside_not s p r.0 (apart r.0 r.1) r.2 r.3

    near_none : keep near (places_in image fs) ≡ []
    near_none = keep_none near (places_in image fs) none_near

    far_all : keep far (places_in image fs) ≡ places_in image fs
    far_all = keep_whole far (places_in image fs) (λ p m. rw (none_near p m))

  -- one area that is apart from it, and the source itself
  module _ (d : Descriptor) where
    abbrev own : List ℕ
    own = record_places d.offset (records_of image d)

    own_not : Clear d s → (p : ℕ) → Memᴰ p own → near p ≡ false
    own_not c p m = let r = in_area image d p m in inside_not s p d c r.0 r.1

    own_near : d ≡ s → (p : ℕ) → Memᴰ p own → near p ≡ true
    own_near e p m = let r = in_area image d p m in rw (← e) (inside_own d p r.0 r.1)

  pub parted : (fs : List Descriptor) → T (all_disjoint fs) → ((d : Descriptor) → Memᴰ d fs → 0 < d.length) → Memᴰ s fs
      → (keep near (places_in image fs) ≡ record_places s.offset (records_of image s))
      × (keep far (places_in image fs) ≡ places_in image (keep (is_other s) fs))
  unfolding places_in keep is_other
  parted [] t long m = elim m [ ]
  parted (d ∷ fs) t long (Memᴰ.head e) =
      let apart : (x : Descriptor) → Memᴰ x fs → Clear x s = λ x m. clear_sym s x (rw (sym e) at ((split_first d fs t).0 x m)) in
      let pos : 0 < s.length = rw e (long d (Memᴰ.head refl)) in
      let q : keep (is_other s) fs ≡ fs = keep_whole (is_other s) fs (λ x m. other_apart s x (apart x m) (long x (Memᴰ.tail m)) pos) in
      let z : is_other s d ≡ false = rw (e, eq-eqb d.offset d.offset refl) in (
        keep_append near (own d) (places_in image fs)
            ∙ rw (keep_whole near (own d) (own_near d (sym e)), near_none fs apart, append-nil (own d), e),
        keep_append far (own d) (places_in image fs)
            ∙ rw (keep_none far (own d) (λ p m. rw (own_near d (sym e) p m)), far_all fs apart, z, q),
      )
  parted (d ∷ fs) t long (Memᴰ.tail m) =
      let c : Clear d s = (split_first d fs t).0 s m in
      let ih = parted fs (split_first d fs t).1 (λ x k. long x (Memᴰ.tail k)) m in
      let z : is_other s d ≡ true = other_apart s d c (long d (Memᴰ.head refl)) (long s (Memᴰ.tail m)) in (
        keep_append near (own d) (places_in image fs) ∙ rw (keep_none near (own d) (own_not d c)) ih.0,
        keep_append far (own d) (places_in image fs) ∙ rw (keep_whole far (own d) (λ p k. rw (own_not d c p k)), ih.1, z),
      )

  module _ (fs : List Descriptor) (t : T (all_disjoint fs)) (long : (d : Descriptor) → Memᴰ d fs → 0 < d.length) (m : Memᴰ s fs) where
    pub near_records : map (bytes_at image) (keep near (places_in image fs)) ≡ bytes_of (records_of image s)
    unfolding places_in records_in
    near_records =
        rw ((parted fs t long m).0, ← append-nil (record_places s.offset (records_of image s))) (places_bytes image (s ∷ []) ∙ append-nil (bytes_of (records_of image s)))

    pub far_records : map (bytes_at image) (keep far (places_in image fs)) ≡ records_elsewhere image fs s
    unfolding records_elsewhere
    far_records = rw (parted fs t long m).1 (places_bytes image (keep (is_other s) fs))

-- ---- the copies of a volume

-- what `list_copies` finds for a source among the file areas of a mount is what a collection copies
pub volume_copies : (image : Bytes) (ds : List Descriptor) (s : Descriptor) (t : Tables) → T (all_disjoint (file_areas image ds))
    → ((d : Descriptor) → Memᴰ d (file_areas image ds) → 0 < d.length) → Memᴰ s (file_areas image ds)
    → AllRows (by_place image) (placed_volume image ds) t
    → map (bytes_at image) (copied_places image s.offset s.length (places_in image (file_areas image ds)) t)
    ≡ copies (volume image ds) (bytes_of (records_of image s)) (records_elsewhere image (file_areas image ds) s)
volume_copies image ds s t a long m rows =
    copies_are image (placed_volume image ds) t rows s.offset s.length (places_in image (file_areas image ds))
    ∙ rw (
      volume_places image ds,
      near_records image s (file_areas image ds) a long m,
      far_records image s (file_areas image ds) a long m,
    )
