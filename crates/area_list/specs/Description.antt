-- Check 1: whether an image and a list of areas are well described.
use Rattle.std.specs.Prelude.{ℕ, ◌*◌, ◌≤◌, ◌<◌, ◌≡◌, refl, Bool, true, false, not, ◌&&◌, ◌||◌, List, length, take, ltb}
use Rattle.std.proofs.Common.{ap, ◌∙◌, arith, lt-ltb, le-ltb, le-leb, leb-true, ltb-false}
use Rattle.std.proofs.Math.Bool.{and_assoc, or-true}
use Rattle.std.proofs.Math.Dec.{leb}
use Rattle.std.proofs.Math.Decide.{ℕ_discrete}
use Rattle.std.proofs.lemmas.Bool.{lt-leb}
use Rattle.format.specs.Bytes.{Bytes}
use Rattle.volume.specs.Lists.{all}
use Rattle.format_laws.specs.Record.{and_left, and_right}
use Rattle.volume_laws.specs.Tests.{or_is_false, not_is_false}
use Rattle.calls.specs.Areas.{most_areas, largest_image, good_area, all_disjoint, good_areas}
use Rattle.area_list.specs.Numbers.{paired, area_list}
use Rattle.calls.specs.Mount.{bad_description}
use Rattle.calls.specs.declared.Descriptor.{Descriptor}
use Rattle.area_list.specs.Listing.{Counted, counted_length}

-- r is the number of areas, which are the first pairs of the list, or 0 where the description is bad
pub record GoodList (image : Bytes) (areas : List ℕ) (r : ℕ) : Type 0 where
  pub few : r ≤ most_areas
  pub within : r * 2 ≤ length areas
  pub refused : r ≡ 0 → bad_description image (area_list areas) ≡ true
  pub passed : (r ≡ 0 → ⊥) → bad_description image (area_list areas) ≡ false
  pub is : (r ≡ 0 → ⊥) → paired (take (r * 2) areas) ≡ area_list areas

pub not_good : (image : Bytes) (areas : List ℕ) → bad_description image (area_list areas) ≡ true → GoodList image areas 0
not_good image areas e = record { few = omega arith; within = omega arith; refused = λ q. e; passed = λ h. absurd (h refl); is = λ h. absurd (h refl) }

module _ (image : Bytes) (ds : List Descriptor) where
  abbrev good : Bool
  good = all (good_area (length image)) ds && all_disjoint ds

  parts : bad_description image ds ≡ (ltb largest_image (length image) || not ((leb 1 (length ds) && leb (length ds) most_areas) && good))
  unfolding bad_description good_areas
  parts = rw (and_assoc (leb 1 (length ds) && leb (length ds) most_areas) (all (good_area (length image)) ds) (all_disjoint ds))

  pub bad_size : largest_image < length image → bad_description image ds ≡ true
  bad_size h = parts ∙ rw (lt-ltb _ _ h)

  pub bad_empty : length ds ≡ 0 → bad_description image ds ≡ true
  bad_empty h = parts ∙ rw (lt-leb 1 (length ds) (omega arith)) (or-true (ltb largest_image (length image)))

  pub bad_many : most_areas < length ds → bad_description image ds ≡ true
  bad_many h = parts ∙ rw (le-leb 1 (length ds) (omega arith), lt-leb (length ds) most_areas h) (or-true (ltb largest_image (length image)))

  pub bad_areas : good ≡ false → 1 ≤ length ds → length ds ≤ most_areas → bad_description image ds ≡ true
  bad_areas e h g = parts ∙ rw (le-leb 1 (length ds) h, le-leb (length ds) most_areas g, e) (or-true (ltb largest_image (length image)))

  pub good_description : good ≡ true → length image ≤ largest_image → 1 ≤ length ds → length ds ≤ most_areas → bad_description image ds ≡ false
  good_description e s h g = parts ∙ rw (le-leb 1 (length ds) h, le-leb (length ds) most_areas g, e, le-ltb largest_image (length image) s)

-- what check 1 gives where it passes
pub record GoodDescription (image : Bytes) (ds : List Descriptor) : Type 0 where
  pub small : length image ≤ largest_image
  pub good : good_areas (length image) ds ≡ true
  pub some : 1 ≤ length ds
  pub few : length ds ≤ most_areas
  pub each : all (good_area (length image)) ds ≡ true
  pub apart : all_disjoint ds ≡ true

pub description_good : (image : Bytes) (ds : List Descriptor) → bad_description image ds ≡ false → GoodDescription image ds
unfolding bad_description good_areas
description_good image ds e =
    let o = or_is_false (ltb largest_image (length image)) (not (good_areas (length image) ds)) e in
    let g = not_is_false (good_areas (length image) ds) o.1 in
    let count = leb 1 (length ds) && leb (length ds) most_areas in
    let each = all (good_area (length image)) ds in
    let a = and_left (count && each) (all_disjoint ds) g in
    let c = and_left count each a in
    record {
      small = ltb-false largest_image (length image) o.0;
      good = g;
      some = leb-true _ _ (and_left (leb 1 (length ds)) (leb (length ds) most_areas) c);
      few = leb-true _ _ (and_right (leb 1 (length ds)) (leb (length ds) most_areas) c);
      each = and_right count each a;
      apart = and_right (count && each) (all_disjoint ds) g;
    }

-- the list has n entries, which are its first pairs
module _ (image : Bytes) (areas : List ℕ) (n : ℕ) (k : Counted areas n) where
  abbrev entries : List Descriptor
  entries = paired (take (n * 2) areas)

  pub list_empty : n ≡ 0 → GoodList image areas 0
  list_empty h = not_good image areas (bad_empty image _ (counted_length areas n k ∙ h))

  pub list_long : most_areas < n → GoodList image areas 0
  list_long h = not_good image areas (bad_many image _ (omega (arith, counted_length areas n k)))

  pub list_bad : n ≤ most_areas → (all (good_area (length image)) entries && all_disjoint entries) ≡ false → GoodList image areas 0
  list_bad g b = go (ℕ_discrete n 0)
    where
      go : Dec (n ≡ 0) → GoodList image areas 0
      go (yes z) = list_empty z
      go (no h) =
          let e = counted_length areas n k in
          not_good image areas (bad_areas image _ (rw k.is at b) (omega arith) (omega arith))

  -- an empty list is not good: there its number is the 0 of a bad one
  pub list_good : n ≤ most_areas → (all (good_area (length image)) entries && all_disjoint entries) ≡ true → length image ≤ largest_image → GoodList image areas n
  list_good g b s =
      let e = counted_length areas n k in
      record {
        few = g;
        within = k.within;
        refused = λ z. bad_empty image _ (omega arith);
        passed = λ z. good_description image _ (rw k.is at b) s (omega arith) (omega arith);
        is = λ z. k.is;
      }

-- the pairs stand for good areas
pub listed_good : (image : Bytes) (areas : List ℕ) (n : ℕ) → GoodList image areas n → (n ≡ 0 → ⊥)
    → all (good_area (length image)) (paired (take (n * 2) areas)) ≡ true
listed_good image areas n g h = ap (all (good_area (length image))) (g.is h) ∙ (description_good image (area_list areas) (g.passed h)).each
