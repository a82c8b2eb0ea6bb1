-- Where the areas of a volume lie, for callers of `check_areas`: inside the image, apart, together no longer than it.
use Rattle.std.specs.Prelude.{ℕ, ◌+◌, ◌≤◌, ◌<◌, ◌≡◌, ◌≢◌, true, not, length, get_or, Ok}
use Rattle.std.proofs.Common.{sym, ◌∙◌, arith}
use Rattle.std.proofs.Math.Bool.{Bool}
use mathlib.Core.List.{List, Memᴰ}
use Rattle.std.proofs.Math.Dec.{leb, eqb, leb→le, T_not}
use Rattle.format.specs.Bytes.{Bytes}
use Rattle.format.specs.AreaHeader.{area_id, scratch_id, valid_header, is_file_area, is_scratch}
use Rattle.volume.specs.Lists.{all}
use Rattle.volume_laws.specs.Tests.{true→T, T→true, and_T, not_is_false}
use Rattle.volume_laws.specs.Lists.{keep_mem, all_mem, mem_all}
use Rattle.calls.specs.Areas.{most_areas, largest_image, good_area, all_disjoint, area_bytes, file_areas, scratch_areas}
use Rattle.calls.specs.Refusal.{first_refusal}
use Rattle.calls.specs.Mount.{bad_description, short_scratch}
use Rattle.calls.specs.declared.Descriptor.{Descriptor}
use Rattle.calls_laws.specs.Checks.{passed_first}
use Rattle.table_rows.specs.Parts.{part, part_long}
use Rattle.area_pass.specs.Listing.{AreasFit}
use Rattle.area_pass.specs.Rows.{spans_at}
use Rattle.area_kinds.specs.declared.CheckedAreas.{CheckedAreas}
use Rattle.area_list.specs.Described.{area_of, described, described_at}
use Rattle.area_list.specs.Good.{AreaFits, fits}
use Rattle.area_list.specs.Description.{GoodDescription, description_good}
use Rattle.area_list.specs.Places.{Clear, apart_members, keep_disjoint, total_length, total_within}
use Rattle.area_kinds.specs.Checks.{area_checks, KindsPass, kinds_passed, Split, Checked}

-- ---- what checks 1 to 4 give where they pass

pub record AreasPass (image : Bytes) (ds : List Descriptor) : Type 0 where
  pub description : GoodDescription image ds
  pub kinds : KindsPass image (file_areas image ds) (scratch_areas image ds)

pub areas_pass : (image : Bytes) (ds : List Descriptor) → first_refusal (area_checks image ds) ≡ 0 → AreasPass image ds
unfolding area_checks first_refusal
areas_pass image ds e =
    let a = passed_first (bad_description image ds) 0 _ e in
    record { description = description_good image ds a.0; kinds = kinds_passed image _ _ a.1 }

module _ (image : Bytes) (ds : List Descriptor) (p : AreasPass image ds) where
  pub member_fits : (d : Descriptor) → Memᴰ d ds → AreaFits (length image) d
  member_fits d m = fits (length image) d (T→true (all_mem (good_area (length image)) ds (true→T p.description.each) m))

  pub file_member : (d : Descriptor) → Memᴰ d (file_areas image ds) → Memᴰ d ds
  unfolding file_areas
  file_member d m = (keep_mem _ ds m).0

  pub scratch_member : (d : Descriptor) → Memᴰ d (scratch_areas image ds) → Memᴰ d ds
  unfolding scratch_areas
  scratch_member d m = (keep_mem _ ds m).0

  -- a file area is no scratch area
  pub file_no_scratch : (d e : Descriptor) → Memᴰ d (file_areas image ds) → Memᴰ e (scratch_areas image ds) → d ≢ e
  unfolding file_areas scratch_areas is_file_area is_scratch
  file_no_scratch d e m n q =
      let id : Descriptor → Bool = λ x. eqb (area_id (area_bytes image x)) scratch_id in
      let f = (and_T (valid_header d.length (area_bytes image d)) (not (id d)) (keep_mem _ ds m).1).1 in
      let s = (and_T (valid_header e.length (area_bytes image e)) (id e) (keep_mem _ ds n).1).1 in
      T_not (id d) f (rw q s)

  pub file_scratch_apart : (d e : Descriptor) → Memᴰ d (file_areas image ds) → Memᴰ e (scratch_areas image ds) → Clear d e
  file_scratch_apart d e m n =
      apart_members ds p.description.apart d e (file_member d m) (scratch_member e n) (file_no_scratch d e m n)

  pub files_disjoint : all_disjoint (file_areas image ds) ≡ true
  unfolding file_areas
  files_disjoint = T→true (keep_disjoint _ ds (true→T p.description.apart))

  pub files_fit : all (good_area (length image)) (file_areas image ds) ≡ true
  unfolding file_areas
  files_fit = T→true (mem_all _ _ (λ d m. all_mem (good_area (length image)) ds (true→T p.description.each) (keep_mem _ ds m).0))

  -- the file areas are together no longer than the image
  pub files_total : total_length (file_areas image ds) ≤ length image
  files_total = total_within (length image) (file_areas image ds) files_fit files_disjoint

  -- scratch is as long as every file area
  pub scratch_longest : (d s : Descriptor) → Memᴰ d (file_areas image ds) → Memᴰ s (scratch_areas image ds) → d.length ≤ s.length
  unfolding short_scratch
  scratch_longest d s m n =
      let t = true→T (not_is_false (all (λ s. all (λ f. leb f.length s.length) (file_areas image ds)) (scratch_areas image ds)) p.kinds.long) in
      leb→le d.length s.length (all_mem _ (file_areas image ds) (all_mem _ (scratch_areas image ds) t n) m)

-- where `check_areas` does not refuse
pub checked_pass : (image : Bytes) (ds : List Descriptor) (a : CheckedAreas) (rows : List ℕ) → Checked image ds (Ok a) rows → AreasPass image ds
checked_pass image ds a rows c = areas_pass image ds (sym c.refusal)

-- ---- the file areas by the rows that `check_areas` stored them in

module _ (image : Bytes) (ds : List Descriptor) (p : AreasPass image ds) (r : CheckedAreas) (rows : List ℕ) (s : Split image ds r rows)
    (long : spans_at + most_areas ≤ length rows) where
  abbrev starts : List ℕ
  starts = part 0 r.files rows

  abbrev spans : List ℕ
  spans = part spans_at r.files rows

  starts_long : length starts ≡ r.files
  starts_long = part_long 0 r.files rows (omega (arith, s.few))

  spans_long : length spans ≡ r.files
  spans_long = part_long spans_at r.files rows (omega (arith, s.few))

  file_fits : (i : ℕ) → i < length starts → AreaFits (length image) (area_of (get_or starts i 0) (get_or spans i 0))
  file_fits i h =
      let m = rw s.files at (described_at starts spans i h (omega (arith, starts_long, spans_long))) in
      member_fits image ds p (area_of (get_or starts i 0) (get_or spans i 0)) (file_member image ds p (area_of (get_or starts i 0) (get_or spans i 0)) m)

  total : total_length (described starts spans) ≤ length image
  total = rw s.files (files_total image ds p)

  pub files_apart : total_length (described (part 0 r.files rows) (part spans_at r.files rows)) ≤ largest_image
  files_apart = omega (arith, total, p.description.small)

  pub files_lie : AreasFit image (part 0 r.files rows) (part spans_at r.files rows)
  files_lie = record {
    small = p.description.small;
    pairs = spans_long ∙ sym starts_long;
    long = λ i h. (file_fits i h).long;
    inside = λ i h. (file_fits i h).inside;
  }
