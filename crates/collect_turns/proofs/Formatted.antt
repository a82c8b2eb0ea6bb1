-- How often each area is collected after a format.
use Rattle.std.specs.Prelude.{◌+◌, ◌≤◌, ◌≡◌}
use Rattle.std.proofs.Common.{inl, inr, arith}
use mathlib.Core.List.{List, [], ◌∷◌}
use Rattle.format.specs.Bytes.{Bytes}
use Rattle.calls.specs.Areas.{file_areas, scratch_areas}
use Rattle.calls.specs.Format.{format_number, image_formatted}
use Rattle.calls.specs.Collect.{count_of}
use Rattle.calls.specs.declared.Descriptor.{Descriptor}
use Rattle.collect_laws.proofs.Source.{eligible_file}
use Rattle.collect_laws.proofs.Mounted.{scratch_is, file_is}
use Rattle.demand2.specs.Format.{AfterFormat}
use Rattle.demand2.proofs.Format.{format}
use Rattle.collect_turns.specs.Words.{TakesTurns, times, Run}
use Rattle.collect_turns.proofs.Shares.{equal_shares}

-- So it is after a format: t is the scratch area that it made
pub format_shares : (image image' : Bytes) (ds : List Descriptor) (t : Descriptor) (l : List Descriptor) → format_number image ds ≡ 0
    → scratch_areas (image_formatted image ds) ds ≡ t ∷ [] → Run ds (image_formatted image ds) l image'
    → (d e : Descriptor) → TakesTurns (image_formatted image ds) ds t d → TakesTurns (image_formatted image ds) ds t e → times d l ≤ times e l + 1
format_shares image image' ds t l accepted one r = equal_shares 0 (omega arith) (image_formatted image ds) image' ds t l one zero r
  where
    f : AfterFormat image (image_formatted image ds) ds
    f = format image ds accepted

    zero : (d : Descriptor) → TakesTurns (image_formatted image ds) ds t d → count_of (image_formatted image ds) d ≡ 0
    zero d (inl e) = f.counts d (rw e (scratch_is (image_formatted image ds) ds t one).0)
    zero d (inr m) = f.counts d (file_is (image_formatted image ds) ds d (eligible_file (file_areas (image_formatted image ds) ds) t m).0).0
