-- Areas of 4,096 bytes one after the other, as numbers and as descriptors.
use Rattle.std.specs.Prelude.{ℕ, zero, suc, ◌+◌, ◌-◌, ◌*◌, ◌/◌, ◌%◌, ◌≤◌, ◌<◌, ◌≡◌, refl, true, false, ◌&&◌, List, [], ◌∷◌, ◌++◌, length, set, replicate, eqb}
use Rattle.std.proofs.Common.{sym, ap, ◌∙◌, append_assoc, arith, add-one}
use Rattle.std.proofs.Math.Dec.{leb, leb→le}
use Rattle.format.specs.Bytes.{Bytes}
use Rattle.std.specs.Prelude.{Result, Ok, Err}
use Rattle.calls.specs.Areas.{listed, most_areas}
use Rattle.calls.specs.Outcome.{code}
use Rattle.calls.specs.declared.Refusal.{Refusal}
use Rattle.area_structs.specs.declared.Areas.{Areas}
use Rattle.area_list.specs.Numbers.{paired, area_list}
use Rattle.calls.specs.Report.{refused_report, report_of}
use Rattle.calls.specs.declared.Descriptor.{Descriptor}
use Rattle.area_structs.specs.Entries.{most_numbers}
use Rattle.volume_laws.specs.Tests.{and_T, true→T}
use Rattle.calls.specs.Attempt.{refuses}
use Rattle.calls.specs.Tree.{attempt_tree}
use Rattle.calls.specs.Program.{program_area, cut_areas, whole_areas, program_report, program_tree}

-- k areas from an offset on, offset and length in turn
unfoldable pub flat : ℕ → ℕ → List ℕ
flat zero at = []
flat (suc k) at = at ∷ program_area ∷ flat k (at + program_area)

-- followed by zeros, which end the list, they stand for the areas that the input is cut into
pub flat_listed : (k at : ℕ) (l : List ℕ) → area_list (flat k at ++ (0 ∷ 0 ∷ l)) ≡ cut_areas k at
unfolding flat listed paired cut_areas
flat_listed zero at l = refl
flat_listed (suc k) at l = ap (λ (x : List Descriptor). record { offset = at; length = program_area } ∷ x) (flat_listed k (at + program_area) l)

flat_snoc : (k at : ℕ) → flat (suc k) at ≡ flat k at ++ ((at + k * program_area) ∷ program_area ∷ [])
unfolding flat
flat_snoc zero at = let z : at + 0 * program_area ≡ at = omega arith in rw z
flat_snoc (suc k) at =
    let z : at + program_area + k * program_area ≡ at + suc k * program_area = omega arith in
    ap (λ l. at ∷ program_area ∷ l) (flat_snoc k (at + program_area) ∙ rw z)

-- the numbers with i areas described: zeros follow
abbrev pub described : ℕ → List ℕ
described i = flat i 0 ++ replicate (most_numbers - i * 2) 0

-- a pair stored behind them
flat_set : (i at x y o n : ℕ) (l : List ℕ) → set (set (flat i at ++ (x ∷ y ∷ l)) (i * 2) o) (i * 2 + 1) n ≡ flat i at ++ (o ∷ n ∷ l)
unfolding flat
flat_set zero at x y o n l = refl
flat_set (suc i) at x y o n l =
    let a : suc i * 2 ≡ suc (suc (i * 2)) = omega arith in
    let b : suc i * 2 + 1 ≡ suc (suc (i * 2 + 1)) = omega arith in
    rw (b, a) (ap (λ (z : List ℕ). at ∷ program_area ∷ z) (flat_set i (at + program_area) x y o n l))

pub describe_more : (i o n : ℕ) → i < most_areas → o ≡ i * program_area → n ≡ program_area
    → set (set (described i) (i * 2) o) (i * 2 + 1) n ≡ described (i + 1)
describe_more i o n h p q =
    let a : most_numbers - i * 2 ≡ suc (suc (most_numbers - (i + 1) * 2)) = omega arith in
    let z : 0 + i * program_area ≡ i * program_area = omega arith in
    let c : flat (i + 1) 0 ≡ flat i 0 ++ (o ∷ n ∷ []) = rw add-one (flat_snoc i 0 ∙ rw (z, p, q)) in
    rw a (flat_set i 0 0 0 o n (replicate (most_numbers - (i + 1) * 2) 0) ∙ sym (rw c (append_assoc (flat i 0) (o ∷ n ∷ []) (replicate (most_numbers - (i + 1) * 2) 0))))

pub describe_done : (i : ℕ) → i ≤ most_areas → area_list (described i) ≡ cut_areas i 0
describe_done i h =
    let a : most_numbers - i * 2 ≡ suc (suc (most_numbers - (i + 1) * 2)) = omega arith in
    rw a (flat_listed i 0 (replicate (most_numbers - (i + 1) * 2) 0))

-- ---- the areas of an input, or why there are none

pub record CutInto (n : ℕ) (areas : Areas) : Type 0 where
  pub whole : whole_areas n ≡ true
  pub are : area_list areas.numbers ≡ cut_areas (n / program_area) 0

pub record CutNot (n : ℕ) (r : Refusal) : Type 0 where
  pub broken : whole_areas n ≡ false
  pub number : code r ≡ 1

abbrev pub Cuts : ℕ → Result Areas Refusal → Type 0
Cuts n (Ok areas) = CutInto n areas
Cuts n (Err r) = CutNot n r

pub few : (n : ℕ) → whole_areas n ≡ true → n / program_area ≤ most_areas
unfolding whole_areas
few n e =
    let t = and_T (eqb (n % program_area) 0 && leb 2 (n / program_area)) (leb (n / program_area) most_areas) (true→T e) in
    leb→le (n / program_area) most_areas t.1

-- what is told of whole areas, and of any other input
module _ (input : Bytes) where
  pub reports : (areas : Areas) → CutInto (length input) areas → report_of input (area_list areas.numbers) ≡ program_report input
  unfolding program_report
  reports areas c = rw (program_report, c.whole, c.are)

  pub reports_none : (r : Refusal) → CutNot (length input) r → refused_report (code r) ≡ program_report input
  unfolding program_report
  reports_none r c = rw (program_report, c.broken, c.number)

  pub lists : (areas : Areas) → CutInto (length input) areas → attempt_tree input (area_list areas.numbers) ≡ program_tree input
  unfolding program_tree
  lists areas c = rw (program_tree, c.whole, c.are)

  pub lists_none : (r : Refusal) → CutNot (length input) r → refuses (code r) ≡ program_tree input
  unfolding program_tree
  lists_none r c = rw (program_tree, c.broken, c.number)
