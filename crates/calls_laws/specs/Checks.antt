-- What checks 1 to 7 give where they pass, and what of an image they turn on.
use Rattle.std.specs.Prelude.{ℕ, suc, ◌≤◌, ◌<◌, ◌≡◌, refl, Bool, true, false, cond, not, ◌&&◌, ◌||◌, length, take, T, ltb}
use Rattle.std.proofs.Common.{sym, ◌∙◌, arith}
use mathlib.Core.List.{List, ◌∷◌, Memᴰ}
use Rattle.std.proofs.Math.Dec.{leb, leb→le}
use Rattle.format.specs.Bytes.{Bytes}
use Rattle.format.specs.AreaHeader.{area_header_size, valid_header, is_scratch, is_file_area, area_id}
use Rattle.volume.specs.Lists.{all}
use Rattle.volume.specs.View.{by_bytes}
use Rattle.volume.specs.Counting.{all_agree}
use Rattle.format_laws.specs.Bytes.{same_byte, same_take}
use Rattle.format_laws.specs.Header.{valid_same}
use Rattle.volume_laws.specs.Tests.{true→T, not_is_false, or_is_false, and_T}
use Rattle.volume_laws.specs.Lists.{all_mem}
use Rattle.calls.specs.Areas.{area_end, shortest_area, largest_image, most_areas, good_area, disjoint, all_disjoint, good_areas, file_areas}
use Rattle.calls.specs.Areas.{scratch_areas}
use Rattle.calls.specs.Refusal.{first_refusal}
use Rattle.calls.specs.Mount.{accepted_records, volume, bad_description, shared_area_id, wrong_areas, short_scratch, too_many_ids, no_root}
use Rattle.calls.specs.Mount.{mount_checks, mount_number}
use Rattle.calls.specs.declared.Descriptor.{Descriptor}

-- no check fails
pub record Passes (image : Bytes) (ds : List Descriptor) : Type 0 where
  pub described : bad_description image ds ≡ false
  pub own_ids : shared_area_id image (file_areas image ds) ≡ false
  pub areas : wrong_areas (file_areas image ds) (scratch_areas image ds) ≡ false
  pub scratch : short_scratch (file_areas image ds) (scratch_areas image ds) ≡ false
  pub few : too_many_ids (volume image ds) ≡ false
  pub agree : all_agree by_bytes (accepted_records image ds) ≡ true
  pub root : no_root (volume image ds) ≡ false

-- a check with a number other than 0 that refuses nothing
pub passed_first : (b : Bool) (n m : ℕ) → cond b (suc n) m ≡ 0 → (b ≡ false) × (m ≡ 0)
passed_first true n m e = absurd (omega arith)
passed_first false n m e = (refl, e)

pub passes : (image : Bytes) (ds : List Descriptor) → mount_number image ds ≡ 0 → Passes image ds
unfolding mount_number mount_checks first_refusal
passes image ds e =
    let a = passed_first (bad_description image ds) 0 _ e in
    let b = passed_first (shared_area_id image (file_areas image ds)) 1 _ a.1 in
    let c = passed_first (wrong_areas (file_areas image ds) (scratch_areas image ds)) 2 _ b.1 in
    let d = passed_first (short_scratch (file_areas image ds) (scratch_areas image ds)) 3 _ c.1 in
    let f = passed_first (too_many_ids (volume image ds)) 4 _ d.1 in
    let g = passed_first (not (all_agree by_bytes (accepted_records image ds))) 5 _ f.1 in
    let h = passed_first (no_root (volume image ds)) 6 0 g.1 in
    record {
      described = a.0;
      own_ids = b.0;
      areas = c.0;
      scratch = d.0;
      few = f.0;
      agree = not_is_false (all_agree by_bytes (accepted_records image ds)) g.0;
      root = h.0;
    }

-- and back
pub mounts : (image : Bytes) (ds : List Descriptor) → Passes image ds → mount_number image ds ≡ 0
unfolding mount_number mount_checks first_refusal
mounts image ds p = rw (p.described, p.own_ids, p.areas, p.scratch, p.few, p.agree, p.root)

-- Check 1: the areas lie inside the image, and no byte is in two of them.

-- the byte at i of an image is one of the area's
abbrev pub InArea : Descriptor → ℕ → Type 0
InArea d i = (d.offset ≤ i) × (i < area_end d)

no_overlap : (a b : Descriptor) → T (disjoint a b) → (i : ℕ) → InArea a i → InArea b i → ⊥
unfolding disjoint
no_overlap a b t i u v = go (leb (area_end a) b.offset) refl t
  where
    go : (x : Bool) → leb (area_end a) b.offset ≡ x → T (x || leb (area_end b) a.offset) → ⊥
    go true e t = omega (arith, leb→le (area_end a) b.offset (true→T e))
    go false e t = omega (arith, leb→le (area_end b) a.offset t)

apart_in : (l : List Descriptor) → T (all_disjoint l) → (a b : Descriptor) → Memᴰ a l → Memᴰ b l
    → (i : ℕ) → InArea a i → InArea b i → a ≡ b
unfolding all_disjoint
apart_in mathlib.Core.List.[] t a b m _ i u v = elim m [ ]
apart_in (d ∷ l) t a b (Memᴰ.head p) (Memᴰ.head q) i u v = p ∙ sym q
apart_in (d ∷ l) t a b (Memᴰ.head p) (Memᴰ.tail n) i u v =
    let s = all_mem (disjoint d) l (and_T (all (disjoint d) l) (all_disjoint l) t).0 n in
    absurd (no_overlap d b s i (rw p at u) v)
apart_in (d ∷ l) t a b (Memᴰ.tail m) (Memᴰ.head q) i u v =
    let s = all_mem (disjoint d) l (and_T (all (disjoint d) l) (all_disjoint l) t).0 m in
    absurd (no_overlap d a s i (rw q at v) u)
apart_in (d ∷ l) t a b (Memᴰ.tail m) (Memᴰ.tail n) i u v =
    apart_in l (and_T (all (disjoint d) l) (all_disjoint l) t).1 a b m n i u v

module _ (image : Bytes) (ds : List Descriptor) (described : bad_description image ds ≡ false) where
  good_areas_lem : T (all (good_area (length image)) ds) × T (all_disjoint ds)
  unfolding bad_description good_areas
  good_areas_lem =
      let e = (or_is_false (ltb largest_image (length image)) (not (good_areas (length image) ds)) described).1 in
      let g = true→T (not_is_false (good_areas (length image) ds) e) in
      let s = and_T (leb 1 (length ds) && leb (length ds) most_areas && all (good_area (length image)) ds) (all_disjoint ds) g in
      ((and_T (leb 1 (length ds) && leb (length ds) most_areas) (all (good_area (length image)) ds) s.0).1, s.1)

  pub area_fits : (d : Descriptor) → Memᴰ d ds → (area_header_size ≤ d.length) × (area_end d ≤ length image)
  unfolding good_area
  area_fits d m =
      let g = all_mem (good_area (length image)) ds good_areas_lem.0 m in
      let s = and_T (leb shortest_area d.length && leb d.length largest_image) (leb (area_end d) (length image)) g in
      let t = and_T (leb shortest_area d.length) (leb d.length largest_image) s.0 in
      (omega (arith, leb→le shortest_area d.length t.0), leb→le (area_end d) (length image) s.1)

  pub areas_apart : (a b : Descriptor) → Memᴰ a ds → Memᴰ b ds → (i : ℕ) → InArea a i → InArea b i → a ≡ b
  areas_apart = apart_in ds good_areas_lem.1

-- A descriptor's kind and an area's id turn only on the header's bytes.
module _ (n : ℕ) (h k : Bytes) (same : take area_header_size h ≡ take area_header_size k) where
  pub header_id : area_id h ≡ area_id k
  header_id = same_byte area_header_size h k same 23 (omega arith)

  header_valid : valid_header n h ≡ valid_header n k
  header_valid = valid_same n h k (same_take area_header_size h k same 23 (omega arith))

  pub header_file : is_file_area n h ≡ is_file_area n k
  unfolding is_file_area
  header_file = rw (is_file_area, header_valid, header_id)

  pub header_scratch : is_scratch n h ≡ is_scratch n k
  unfolding is_scratch
  header_scratch = rw (is_scratch, header_valid, header_id)
