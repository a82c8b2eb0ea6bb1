-- Each area's share of the collections, by the counts that stand in the headers.
use Rattle.std.specs.Prelude.{ℕ, ◌+◌, ◌-◌, ◌≤◌, ◌<◌, ◌≡◌, refl}
use Rattle.std.proofs.Common.{inl, inr, arith}
use Rattle.std.proofs.Math.Option.{some}
use mathlib.Core.List.{List, [], ◌∷◌, Memᴰ}
use Rattle.format.specs.Bytes.{Bytes}
use Rattle.calls.specs.Areas.{scratch_areas}
use Rattle.calls.specs.Collect.{eligible, count_of, source_of}
use Rattle.calls.specs.declared.Descriptor.{Descriptor}
use Rattle.collect_laws.proofs.Source.{source_found}
use Rattle.collect_turns.specs.Words.{TakesTurns, times, Run, InOrder, FirstLeast}
use Rattle.collect_turns.specs.Order.{past}
use Rattle.collect_turns.proofs.Turn.{source_least}
use Rattle.collect_turns.proofs.Turns.{turns}
use Rattle.collect_turns.specs.Shares.{Among}

module _ (b : ℕ) (image : Bytes) (ds : List Descriptor) (t : Descriptor) (a : Among b image ds t) where
  in_order : InOrder (λ d. b + past b (count_of image d)) image ds t
  in_order = record {
    one_scratch = a.one_scratch;
    counts = λ d q. let c = a.counts d q in omega (arith, a.from, c.0);
    close = λ d e m n. omega (arith, (a.counts d (inr m)).1);
    above = λ d m. omega (arith, (a.counts t (inl refl)).1);
    second = λ d e m n q h. omega (arith, (a.counts t (inl refl)).1);
    below = λ d m. omega (arith, (a.counts d (inr m)).1);
  }

  -- after any run, of any two of these areas: an area is collected more often than another at most by what its count was lower, and one
  pub shares : {image' : Bytes} {l : List Descriptor} → Run ds image l image' → (d e : Descriptor) → TakesTurns image ds t e
      → times d l ≤ times e l + 1 + (past b (count_of image e) - past b (count_of image d))
  shares r d e n = let f = turns ds (λ d. b + past b (count_of image d)) t in_order r in omega (arith, f.within d e n)

-- whatever scratch's count: where the counts of the eligible areas lie within 127 of each other the source is the first of the least
pub least_source : (b : ℕ) → b < 256 → (image : Bytes) (fs : List Descriptor) (t s : Descriptor)
    → ((d : Descriptor) → Memᴰ d (eligible fs t) → (count_of image d < 256) × (past b (count_of image d) < 128))
    → source_of image fs t ≡ some s → FirstLeast (λ d. past b (count_of image d)) (eligible fs t) s
least_source b low image fs t s near chosen =
    let f = source_least image (eligible fs t) (λ d. b + past b (count_of image d))
    (λ d m. omega (arith, (near d m).0)) (λ d e m n. omega (arith, (near d m).1)) s (source_found image fs t s chosen).2 in
    record {
      before = f.before;
      behind = f.behind;
      split = f.split;
      least = λ d m. omega (arith, f.least d m);
      first = λ d m. omega (arith, f.first d m);
    }

-- Where all counts are equal no area is collected a second time before every other was collected once, nor a third time before every other was
-- twice: of any two, neither is ever collected more often than the other by more than one.
pub equal_shares : (c : ℕ) → c < 256 → (image image' : Bytes) (ds : List Descriptor) (t : Descriptor) (l : List Descriptor)
    → scratch_areas image ds ≡ t ∷ [] → ((d : Descriptor) → TakesTurns image ds t d → count_of image d ≡ c)
    → Run ds image l image' → (d e : Descriptor) → TakesTurns image ds t d → TakesTurns image ds t e → times d l ≤ times e l + 1
equal_shares c low image image' ds t l one equal r d e m n =
    let a : Among c image ds t = record { one_scratch = one; from = low; counts = λ d q. let z = equal d q in (omega arith, omega arith) } in
    omega (arith, equal d m, equal e n, shares c image ds t a r d e n)
