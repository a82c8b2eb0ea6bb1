-- "fairer collection" (document 02, T-14): what may be relied on when collections follow one another.
--
-- A count is a byte, so that it passes from 255 to 0. Here it is unwrapped: a tally, a number that leaves the count as its remainder by 256, and
-- that rises by one with each collection of the area and never falls. Which tallies the counts of some areas have is free up to a multiple of 256;
-- counts 254, 255 and 1 can be 254, 255 and 257.
use Rattle.std.specs.Prelude.{ℕ, ◌+◌, ◌-◌, ◌%◌, ◌≤◌, ◌<◌, ◌≡◌, ◌⊎◌, ◌≢◌, ◌↔◌, Bool, cond, ◌&&◌, eqb}
use Rattle.std.proofs.Math.Option.{some}
use mathlib.Core.List.{List, [], ◌∷◌, ◌++◌, Memᴰ}
use Rattle.format.specs.Bytes.{Bytes}
use Rattle.calls.specs.Areas.{file_areas, scratch_areas}
use Rattle.calls.specs.Collect.{eligible, count_of, source_of, collect_of, image_collected}
use Rattle.calls.specs.declared.Descriptor.{Descriptor}
use Rattle.demand2.specs.Store.{SameHeaders}

-- ---- which areas take turns, and how often each did

-- the scratch area t, and the file areas as long as it: those that are collected, or will be
abbrev pub TakesTurns : Bytes → List Descriptor → Descriptor → Descriptor → Type 0
TakesTurns image ds t d = (d ≡ t) ⊎ Memᴰ d (eligible (file_areas image ds) t)

abbrev pub is_same_area : Descriptor → Descriptor → Bool
is_same_area d e = eqb d.offset e.offset && eqb d.length e.length

-- how often an area stands in a list
unfoldable pub times : Descriptor → List Descriptor → ℕ
times d [] = 0
times d (s ∷ l) = cond (is_same_area d s) 1 0 + times d l

-- ---- what happens to a volume

-- collections of the areas l, in this order, and between them anything that leaves the areas' headers as they are, as create, append, unlink,
-- rename and overwrite do
pub data Run (ds : List Descriptor) : Bytes → List Descriptor → Bytes → Type 0 where
  ends : {image : Bytes} → Run ds image [] image
  keeps : {image between image' : Bytes} {l : List Descriptor} → SameHeaders image between ds → Run ds between l image' → Run ds image l image'
  collects : {image image' : Bytes} {l : List Descriptor} (t s : Descriptor) → collect_of image ds ≡ 0 → scratch_areas image ds ≡ t ∷ []
      → source_of image (file_areas image ds) t ≡ some s → Run ds (image_collected image ds) l image' → Run ds image (s ∷ l) image'

-- ---- how far counts lie apart

-- The tallies of the areas as long as scratch t lie within 127 of each other, so that counts are in their order; that of scratch too, or it is one
-- more above one area, which is collected next.
pub record InOrder (tally : Descriptor → ℕ) (image : Bytes) (ds : List Descriptor) (t : Descriptor) : Type 0 where
  pub one_scratch : scratch_areas image ds ≡ t ∷ []
  pub counts : (d : Descriptor) → TakesTurns image ds t d → tally d % 256 ≡ count_of image d
  pub close : (d e : Descriptor) → Memᴰ d (eligible (file_areas image ds) t) → Memᴰ e (eligible (file_areas image ds) t)
      → tally d ≤ tally e + 127
  pub above : (d : Descriptor) → Memᴰ d (eligible (file_areas image ds) t) → tally t ≤ tally d + 128
  pub second : (d e : Descriptor) → Memᴰ d (eligible (file_areas image ds) t) → Memᴰ e (eligible (file_areas image ds) t)
      → d ≢ e → tally d ≤ tally e → tally t ≤ tally e + 127
  pub below : (d : Descriptor) → Memᴰ d (eligible (file_areas image ds) t) → tally d < tally t + 128

-- ---- the theorems

-- Of the eligible areas es s has the least tally, and it is the first that has
pub record FirstLeast (tally : Descriptor → ℕ) (es : List Descriptor) (s : Descriptor) : Type 0 where
  pub before : List Descriptor
  pub behind : List Descriptor
  pub split : es ≡ before ++ (s ∷ behind)
  pub least : (d : Descriptor) → Memᴰ d es → tally s ≤ tally d
  pub first : (d : Descriptor) → Memᴰ d before → tally s < tally d

-- After a run that began with tallies in order
pub record Fair (tally : Descriptor → ℕ) (image image' : Bytes) (ds : List Descriptor) (t : Descriptor) (l : List Descriptor) : Type 0 where
  -- each tally has risen by the number of the area's collections, and they are in order still
  pub scratch : Descriptor
  pub in_order : InOrder (λ d. tally d + times d l) image' ds scratch
  -- the same areas take turns
  pub same_turns : (d : Descriptor) → TakesTurns image ds t d ↔ TakesTurns image' ds scratch d
  -- an area is collected more often than another at most by what its tally was lower, and one
  pub within : (d e : Descriptor) → TakesTurns image ds t e → times d l ≤ times e l + 1 + (tally e - tally d)
