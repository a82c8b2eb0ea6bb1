-- The report of an area of a good list.
use Rattle.std.specs.Prelude.{ℕ, suc, ◌+◌, ◌*◌, ◌-◌, ◌≤◌, ◌<◌, ◌≡◌, refl, ◌≢◌, true, List, [], ◌∷◌, length, take, drop, get_or}
use Rattle.std.proofs.Common.{sym, ap, ◌∙◌, length-take, length-drop, get_or-take, length-take-le}
use native.Mathlib.Omega.{arith}
use Rattle.std.proofs.Math.Decide.{ℕ_discrete}
use borrow.Author.Tests.{le-leb, lt-leb}
use Rattle.format.specs.Bytes.{Bytes}
use Rattle.format.specs.Record.{record_size}
use Rattle.format.specs.Reading.{Placed, free_size, area_parts, area_records}
use Rattle.calls.specs.Refusal.{first_refusal}
use Rattle.calls.specs.Areas.{largest_image, area_bytes, good_area}
use Rattle.calls.specs.Mount.{most_records}
use Rattle.calls.specs.AreaReport.{area_report, refused_area_report, area_report_number, area_report_of}
use Rattle.calls.specs.declared.Descriptor.{Descriptor}
use Rattle.area_list.specs.Numbers.{area_list}
use Rattle.area_list.specs.Described.{area_of}
use Rattle.area_list.specs.Listing.{pair_holds, paired_at, paired_length}
use Rattle.area_list.specs.Description.{GoodList, listed_good}
use Rattle.area_list.specs.Good.{AreaFits, fits}
use Rattle.area_pass.specs.Listing.{record_places, Listed}
use Rattle.area_damage.specs.Damage.{damage_of}
use Rattle.area_pass.specs.Reading.{Reads}
use Rattle.area_damage.specs.declared.Damage.{Damage}
use Rattle.call_area_report.specs.Header.{HeaderSays}
use Rattle.call_area_report.specs.declared.Header.{Header}

-- as many places are listed as the area has records
places_length : (base : ℕ) (l : List Placed) → length (record_places base l) ≡ length l
unfolding record_places
places_length base [] = refl
places_length base (r ∷ l) = ap suc (places_length base l)

pub records_counted : (area : Bytes) (ps : List ℕ) (r : ℕ) (ps' : List ℕ) → length area ≤ largest_image → most_records ≤ length ps → length ps' ≡ length ps
    → Listed area 0 ps 0 r ps' → (r ≡ length (area_records record_size area)) × (r ≤ most_records)
records_counted area ps r ps' s m e l =
    let few : r ≤ most_records = omega (arith, l.few) in
    (sym (length-take-le r ps' (omega arith)) ∙ ap length l.is ∙ places_length 0 (area_records record_size area), few)

pub fits_long : (image : Bytes) (d : Descriptor) → AreaFits (length image) d → length (area_bytes image d) ≡ d.length
fits_long image d f = omega (arith, length-take d.length (drop d.offset image), length-drop d.offset image, f.inside)

-- the list is bad, or has no area i
module _ (image : Bytes) (areas : List ℕ) (n i : ℕ) (g : GoodList image areas n) where
  list_length : n ≢ 0 → length (area_list areas) ≡ n
  list_length z = sym (ap length (g.is z)) ∙ paired_length n (take (n * 2) areas) (length-take-le (n * 2) areas g.within)

  number_refused : n ≤ i → area_report_number image (area_list areas) i ≡ 1
  unfolding area_report_number first_refusal
  number_refused h = go (ℕ_discrete n 0)
    where
      go : Dec (n ≡ 0) → area_report_number image (area_list areas) i ≡ 1
      go (yes z) = rw (g.refused z)
      go (no z) = rw (g.passed z, list_length z, le-leb n i h)

  pub area_refused : n ≤ i → (k : ℕ) → refused_area_report 1 ≡ area_report_of image (area_list areas) i k
  unfolding area_report_of
  area_refused h k = rw (number_refused h)

  module _ (h : i < n) where
    abbrev here : Descriptor
    here = area_of (get_or areas (i * 2) 0) (get_or areas (i * 2 + 1) 0)

    offset_front : get_or (take (n * 2) areas) (i * 2) 0 ≡ get_or areas (i * 2) 0
    offset_front = get_or-take (n * 2) areas (i * 2) 0 (omega arith)

    length_front : get_or (take (n * 2) areas) (i * 2 + 1) 0 ≡ get_or areas (i * 2 + 1) 0
    length_front = get_or-take (n * 2) areas (i * 2 + 1) 0 (omega arith)

    front_long : i * 2 + 1 < length (take (n * 2) areas)
    front_long = omega (arith, length-take-le (n * 2) areas g.within)

    pub area_good : good_area (length image) here ≡ true
    area_good = rw (offset_front, length_front) at
        (pair_holds (good_area (length image)) (take (n * 2) areas) i (listed_good image areas n g (λ z. omega arith)) front_long)

    pub area_fits : AreaFits (length image) here
    area_fits = fits (length image) here area_good

    is_here : (e : Descriptor) → get_or (area_list areas) i e ≡ here
    is_here e = ap (λ (l : List Descriptor). get_or l i e) (sym (g.is (λ z. omega arith))) ∙ paired_at i (take (n * 2) areas) e front_long ∙ rw (offset_front, length_front)

    number_accepted : area_report_number image (area_list areas) i ≡ 0
    unfolding area_report_number first_refusal
    number_accepted = let z : n ≢ 0 = λ e. omega arith in rw (g.passed z, list_length z, lt-leb n i h)

    module _ (k : ℕ) (hd : Header) (a : Descriptor) (e : a ≡ here) (says : HeaderSays image a hd)
        (records : ℕ) (counted : records ≡ length (area_records record_size (area_bytes image a))) (d : Damage) (free : ℕ) (read : Reads (area_bytes image a) k d free) where
      is_area : (o : Descriptor) → get_or (area_list areas) i o ≡ a
      is_area o = is_here o ∙ sym e

      pub area_report_is : record {
        number = 0;
        kind = hd.kind;
        id = hd.id;
        count = hd.count;
        records = records;
        stretches = d.stretches;
        skipped = d.skipped;
        free = a.length - free;
        offset = d.offset;
        length = d.length;
      } ≡ area_report_of image (area_list areas) i k
      unfolding area_report_of area_report damage_of
      area_report_is =
          let f : a.length - free ≡ free_size (area_parts record_size (area_bytes image a)) = omega (arith, fits_long image a (rw e area_fits), read.free_bytes) in
          rw (number_accepted, is_area, says.kind, says.id, says.count, counted, f, read.damage)
