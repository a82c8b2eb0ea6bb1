-- Good areas, held in two slices.
use Rattle.std.specs.Prelude.{ℕ, zero, suc, ◌≤◌, ◌<◌, ◌≡◌, refl, true, ◌&&◌, List, [], ◌∷◌, length, drop, get_or, leb}
use Rattle.std.proofs.Common.{arith, length-drop, leb-true}
use Rattle.format.specs.AreaHeader.{area_header_size}
use Rattle.format_laws.specs.Record.{and_left, and_right}
use Rattle.volume.specs.Lists.{all}
use Rattle.volume_laws.specs.Tests.{T→true, true→T}
use Rattle.volume_laws.specs.Lists.{all_mem}
use Rattle.calls.specs.Areas.{shortest_area, largest_image, area_end, good_area}
use Rattle.calls.specs.declared.Descriptor.{Descriptor}
use Rattle.area_list.specs.Described.{area_of, described, described_at}

-- what a good area is
pub record AreaFits (size : ℕ) (d : Descriptor) : Type 0 where
  pub long : shortest_area ≤ d.length
  pub short : d.length ≤ largest_image
  pub inside : area_end d ≤ size

pub fits : (size : ℕ) (d : Descriptor) → good_area size d ≡ true → AreaFits size d
unfolding good_area
fits size d e =
    let a = leb shortest_area d.length in
    let b = leb d.length largest_image in
    let c = leb (area_end d) size in
    let f = and_left (a && b) c e in
    record {
      long = leb-true _ _ (and_left a b f);
      short = leb-true _ _ (and_right a b f);
      inside = leb-true _ _ (and_right (a && b) c e);
    }

-- two slices that stand for good areas
pub record Good (size : ℕ) (starts spans : List ℕ) : Type 0 where
  pub pairs : length starts ≡ length spans
  pub good : all (good_area size) (described starts spans) ≡ true

module _ (size : ℕ) (starts spans : List ℕ) (g : Good size starts spans) where
  pub good_at : (i : ℕ) → i < length starts → good_area size (area_of (get_or starts i 0) (get_or spans i 0)) ≡ true
  good_at i h =
      let e = g.pairs in
      T→true (all_mem (good_area size) (described starts spans) (true→T g.good) (described_at starts spans i h (omega arith)))

  pub fits_at : (i : ℕ) → i < length starts → AreaFits size (area_of (get_or starts i 0) (get_or spans i 0))
  fits_at i h = fits size (area_of (get_or starts i 0) (get_or spans i 0)) (good_at i h)

  pub header_at : (i : ℕ) → i < length starts → area_header_size ≤ get_or spans i 0
  header_at i h = let f = (fits_at i h).long in omega arith

-- also without the first ones
described_later : (size : ℕ) (i : ℕ) (starts spans : List ℕ) → all (good_area size) (described starts spans) ≡ true
    → all (good_area size) (described (drop i starts) (drop i spans)) ≡ true
unfolding described all
described_later size zero starts spans e = e
described_later size (suc i) [] spans e = refl
described_later size (suc i) (o ∷ starts) [] e = none (drop i starts)
  where
    none : (l : List ℕ) → all (good_area size) (described l []) ≡ true
    none [] = refl
    none (o ∷ l) = refl
described_later size (suc i) (o ∷ starts) (n ∷ spans) e = described_later size i starts spans (and_right (good_area size (area_of o n)) _ e)

pub good_later : (size : ℕ) (starts spans : List ℕ) → Good size starts spans → (i : ℕ) → Good size (drop i starts) (drop i spans)
good_later size starts spans g i = record {
  pairs = let e = g.pairs in simp length-drop (omega arith);
  good = described_later size i starts spans g.good;
}
