-- Tests of all pairs of a list, as a loop asks them: each member beside the later ones.
use Rattle.std.specs.Prelude.{ℕ, zero, suc, ◌+◌, ◌*◌, ◌/◌, ◌≡◌, refl, Bool, true, ◌&&◌, List, [], ◌∷◌, length, drop, get_or}
use Rattle.std.specs.List.{list_all, range_with_len}
use Rattle.std.proofs.Common.{sym, ap, ◌∙◌, arith}
use Rattle.volume.specs.Lists.{all}
use Rattle.volume_laws.specs.Steps.{Asks}
use Rattle.calls.specs.Areas.{disjoint, all_disjoint}
use Rattle.calls.specs.declared.Descriptor.{Descriptor}
use Rattle.area_list.specs.Described.{area_of}
use Rattle.area_list.specs.Numbers.{paired}
use Rattle.area_list.specs.Listing.{pair_step, paired_end}

-- each member is so related to every later one
unfoldable pub pairwise : {A : Type 0} → (A → A → Bool) → List A → Bool
pairwise r [] = true
pairwise r (a ∷ l) = all (r a) l && pairwise r l

pub pairs_ask : {A : Type 0} (r : A → A → Bool) → Asks (pairwise r) (λ a l. all (r a) l)
unfolding pairwise
pairs_ask r = record { nothing = refl; one = λ a l. refl }

-- "no two overlapping"
pub disjoint_asks : Asks all_disjoint (λ d l. all (disjoint d) l)
unfolding all_disjoint
disjoint_asks = record { nothing = refl; one = λ d l. refl }

-- entry i of a list of pairs
abbrev pub pair_of : List ℕ → ℕ → Descriptor
pair_of l i = area_of (get_or l (i * 2) 0) (get_or l (i * 2 + 1) 0)

-- the test of a list of pairs, asked entry by entry from entry i on
asked_from : {test : List Descriptor → Bool} {each : Descriptor → List Descriptor → Bool} → Asks test each → (l : List ℕ) (n i : ℕ) → i + n ≡ length l / 2
    → list_all (λ j. each (pair_of l j) (paired (drop ((j + 1) * 2) l))) (range_with_len i n) ≡ test (paired (drop (i * 2) l))
asked_from {test} {each} k l zero i h = sym (ap test (paired_end l (i * 2) (omega arith)) ∙ k.nothing)
asked_from {test} {each} k l (suc n) i h =
    ap (λ (b : Bool). each (pair_of l i) (paired (drop ((i + 1) * 2) l)) && b) (asked_from k l n (i + 1) (omega arith))
    ∙ sym (ap test (pair_step l i (omega arith)) ∙ k.one (pair_of l i) (paired (drop ((i + 1) * 2) l)))

pub asked : {test : List Descriptor → Bool} {each : Descriptor → List Descriptor → Bool} → Asks test each → (l : List ℕ)
    → list_all (λ j. each (pair_of l j) (paired (drop ((j + 1) * 2) l))) (range_with_len 0 (length l / 2)) ≡ test (paired l)
asked k l = asked_from k l (length l / 2) 0 (omega arith)
