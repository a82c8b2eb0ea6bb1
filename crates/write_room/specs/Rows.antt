-- The free space that the rows of areas tell, and what it is in a mounted volume.
use Rattle.std.specs.Prelude.{Option}
use Rattle.std.specs.Prelude.{ℕ, zero, suc, ◌+◌, ◌-◌, ◌≤◌, ◌<◌, ◌≡◌, refl, ◌≢◌, Bool, true, false, cond, List, [], ◌∷◌, ◌++◌, length, take, drop, get_or, set}
use Rattle.std.proofs.Math.Path.{sym, ap}
use Rattle.std.proofs.Common.{◌∙◌, append-nil, append_assoc, get_or-take, get_or-drop, drop-cons, eq-eqb, ne_eqb}
use native.Mathlib.Omega.{arith}
use Rattle.std.proofs.Math.Dec.{eqb}
use Rattle.format.specs.Bytes.{Bytes}
use Rattle.format.specs.Record.{record_size}
use Rattle.format.specs.Reading.{area_free, area_clean}
use Rattle.calls.specs.Areas.{most_areas, largest_image, file_areas}
use Rattle.calls.specs.Storing.{Space, spaces, first_fit}
use Rattle.calls.specs.declared.Descriptor.{Descriptor}
use Rattle.area_list.specs.Described.{described}
use Rattle.table_rows.specs.Parts.{part, part_long}
use Rattle.area_pass.specs.Rows.{spans_at, stretches_at, free_at, area_rows, area_at, Tells}
use Rattle.mount_state.specs.State.{Safe, Holds}
use Rattle.mount_state.specs.declared.Mounted.{Mounted}
use Rattle.table_rows.specs.Answer.{meant}
use Rattle.write_room.specs.Spaces.{spaces_of, fit_of, place_in, place_of_fit, fit_place, EndsAt, spaces_more, Within}

-- where the area of a row ends, and where its free space starts
abbrev pub end_at : List ℕ → ℕ → ℕ
end_at t i = get_or t i 0 + get_or t (spans_at + i) 0

abbrev pub from_at : List ℕ → ℕ → ℕ
from_at t i = get_or t i 0 + get_or t (free_at + i) 0

-- the free space of the n rows from i on whose areas have no stretch of damage
unfoldable pub row_spaces : List ℕ → ℕ → ℕ → List Space
row_spaces t i zero = []
row_spaces t i (suc n) =
    cond (eqb (get_or t (stretches_at + i) 0) 0) (record { from = from_at t i; end = end_at t i } ∷ row_spaces t (suc i) n) (row_spaces t (suc i) n)

-- the rows stand in the tables, and what they tell in an image
pub record AreaRows (files : ℕ) (t : List ℕ) : Type 0 where
  pub long : area_rows ≤ length t
  pub few : files ≤ most_areas
  pub ends : (i : ℕ) → i < files → end_at t i ≤ largest_image
  pub frees : (i : ℕ) → i < files → get_or t (free_at + i) 0 ≤ largest_image

-- ---- the loop that finds it

-- the rows before i are seen and k spaces found: those and the ones to come make the whole
pub record Finding (t : List ℕ) (files : ℕ) (fs es : List ℕ) (k i : ℕ) : Type 0 where
  pub few : k ≤ i
  pub are : spaces_of (take k fs) (take k es) ++ row_spaces t i (files - i) ≡ row_spaces t 0 files

pub finding_begins : (t : List ℕ) (files : ℕ) (fs es : List ℕ) → Finding t files fs es 0 0
unfolding spaces_of
finding_begins t files fs es =
    let z : files - 0 ≡ files = omega arith in
    record { few = omega arith; are = rw z }

row_next : (t : List ℕ) (i n m : ℕ) → n ≡ suc m → (b : Bool) → eqb (get_or t (stretches_at + i) 0) 0 ≡ b
    → row_spaces t i n ≡ cond b (record { from = from_at t i; end = end_at t i } ∷ row_spaces t (suc i) m) (row_spaces t (suc i) m)
unfolding row_spaces
row_next t i n m e b q = rw (e, q)

module _ {t : List ℕ} {files : ℕ} {fs es : List ℕ} {k i : ℕ} (g : Finding t files fs es k i) where
  pub finding_ends : files ≤ i → spaces_of (take k fs) (take k es) ≡ row_spaces t 0 files
  unfolding row_spaces
  finding_ends h =
      let z : files - i ≡ 0 = omega arith in
      sym (rw z (append-nil (spaces_of (take k fs) (take k es)))) ∙ g.are

  module _ (h : i < files) where
    abbrev later : List Space
    later = row_spaces t (i + 1) (files - (i + 1))

    here : (b : Bool) → eqb (get_or t (stretches_at + i) 0) 0 ≡ b
        → row_spaces t i (files - i) ≡ cond b (record { from = from_at t i; end = end_at t i } ∷ later) later
    here b q = let e : i + 1 ≡ suc i = omega arith in rw e (row_next t i (files - i) (files - suc i) (omega arith) b q)

    pub finding_clean : k < length fs → k < length es → get_or t (stretches_at + i) 0 ≡ 0 → Finding t files (set fs k (from_at t i)) (set es k (end_at t i)) (k + 1) (i + 1)
    finding_clean x y z = record {
      few = omega (arith, g.few);
      are =
          rw (spaces_more fs es k (from_at t i) (end_at t i) x y)
          (append_assoc (spaces_of (take k fs) (take k es)) _ later
          ∙ sym (ap (λ (l : List Space). spaces_of (take k fs) (take k es) ++ l) (here true (eq-eqb _ _ z))) ∙ g.are);
    }

    pub finding_damaged : get_or t (stretches_at + i) 0 ≢ 0 → Finding t files fs es k (i + 1)
    finding_damaged z = record {
      few = omega (arith, g.few);
      are = sym (ap (λ (l : List Space). spaces_of (take k fs) (take k es) ++ l) (here false (ne_eqb _ _ z))) ∙ g.are;
    }

-- ---- the rows of a mounted volume

ends_within : (m : ℕ) (t : List ℕ) (i n : ℕ) → ((j : ℕ) → j < i + n → end_at t j ≤ m) → Within m (row_spaces t i n)
unfolding row_spaces
ends_within m t i zero h = tt
ends_within m t i (suc n) h = go (eqb (get_or t (stretches_at + i) 0) 0) (ends_within m t (suc i) n (λ j l. h j (omega arith)))
  where
    go : (b : Bool) → Within m (row_spaces t (suc i) n)
        → Within m (cond b (record { from = from_at t i; end = end_at t i } ∷ row_spaces t (suc i) n) (row_spaces t (suc i) n))
    go true ih = (h i (omega arith), ih)
    go false ih = ih

part_next : (t : List ℕ) (a n : ℕ) → a < length t → part a (suc n) t ≡ get_or t a 0 ∷ part (suc a) n t
part_next t a n h = rw (drop-cons t a 0 h)

module _ (image : Bytes) (t : List ℕ) (i : ℕ) (reading : Tells (area_at image t i) t i) where
  clean_is : eqb (get_or t (stretches_at + i) 0) 0 ≡ area_clean record_size (area_at image t i)
  unfolding area_clean
  clean_is = ap (λ (n : ℕ). eqb n 0) reading.stretches

  from_is : from_at t i ≡ get_or t i 0 + area_free record_size (area_at image t i)
  from_is = ap (λ (n : ℕ). get_or t i 0 + n) reading.free

rows_described : (image : Bytes) (t : List ℕ) (i n : ℕ) → area_rows ≤ length t → i + n ≤ most_areas
    → ((j : ℕ) → j < i + n → Tells (area_at image t j) t j)
    → row_spaces t i n ≡ spaces image (described (part i n t) (part (spans_at + i) n t))
unfolding row_spaces spaces described
rows_described image t i zero l f e = refl
rows_described image t i (suc n) l f e =
    let q : spans_at + suc i ≡ suc (spans_at + i) = omega arith in
    let ih = rw q at (rows_described image t (suc i) n l (omega arith) (λ j g. e j (omega arith))) in
    rw (
      part_next t i n (omega arith),
      part_next t (spans_at + i) n (omega arith),
      clean_is image t i (e i (omega arith)),
      from_is image t i (e i (omega arith)),
      ih,
    )

module _ {image : Bytes} {m : Mounted} {t : List ℕ} (s : Safe image m t) where
  starts_long : length (part 0 m.files t) ≡ m.files
  starts_long = part_long 0 m.files t (omega (arith, s.files_few, s.long))

  pub row_inside : (i : ℕ) → i < m.files → end_at t i ≤ length image
  row_inside i h =
      let a : get_or (part 0 m.files t) i 0 ≡ get_or t i 0 = get_or-take m.files t i 0 h in
      let b : get_or (part spans_at m.files t) i 0 ≡ get_or t (spans_at + i) 0 = get_or-take m.files (drop spans_at t) i 0 h ∙ get_or-drop spans_at t i 0 in
      omega (arith, s.fit.inside i (omega (arith, starts_long)), a, b)

  pub safe_rows : AreaRows m.files t
  safe_rows = record { long = omega (arith, s.long); few = s.files_few; ends = λ i h. omega (arith, row_inside i h, s.fit.small); frees = s.readings }

  -- all spaces lie in the image
  pub rows_within : Within (length image) (row_spaces t 0 m.files)
  rows_within = ends_within (length image) t 0 m.files (λ i h. row_inside i (omega (arith, h)))

  -- they are those of the file areas
  pub rows_are : {ds : List Descriptor} → Holds image ds m t → row_spaces t 0 m.files ≡ spaces image (file_areas image ds)
  rows_are h =
      rows_described image t 0 m.files (omega (arith, s.long)) (omega (arith, s.files_few)) (λ i l. h.readings i (omega (arith, l))) ∙ ap (spaces image) h.files

  -- the place taken from spaces that are those of the rows
  pub place_found : (n : ℕ) (fs es : List ℕ) (r : Option ℕ) (left : List Space) → spaces_of fs es ≡ row_spaces t 0 m.files
      → first_fit n (spaces_of fs es) ≡ fit_of r left
      → ((ds : List Descriptor) → Holds image ds m t → meant r ≡ place_in (first_fit n (spaces image (file_areas image ds)))) × EndsAt n (length image) r
  place_found n fs es r left e q =
      let here : first_fit n (row_spaces t 0 m.files) ≡ fit_of r left = rw e at q in
      ((λ ds h. place_of_fit r left ∙ sym (ap place_in (sym (ap (first_fit n) (rows_are h)) ∙ here))), fit_place n (length image) _ r left here rows_within)
