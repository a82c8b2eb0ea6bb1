-- Each area's share of the collections, by the counts that stand in the headers.
use Rattle.std.specs.Prelude.{ℕ, ◌<◌, ◌≡◌}
use mathlib.Core.List.{List, [], ◌∷◌}
use Rattle.format.specs.Bytes.{Bytes}
use Rattle.calls.specs.Areas.{scratch_areas}
use Rattle.calls.specs.Collect.{count_of}
use Rattle.calls.specs.declared.Descriptor.{Descriptor}
use Rattle.collect_turns.specs.Words.{TakesTurns}
use Rattle.collect_turns.specs.Order.{past}

-- the counts of the areas that take turns are bytes, among the 128 from b on: they lie within 127 of each other
pub record Among (b : ℕ) (image : Bytes) (ds : List Descriptor) (t : Descriptor) : Type 0 where
  pub one_scratch : scratch_areas image ds ≡ t ∷ []
  pub from : b < 256
  pub counts : (d : Descriptor) → TakesTurns image ds t d → (count_of image d < 256) × (past b (count_of image d) < 128)
