-- Several records stored one after the other, where `place_all` says.
use Rattle.std.proofs.Math.Path.{◌≡◌}
use mathlib.Core.List.{List, [], ◌∷◌, ◌++◌, Memᴰ}
use Rattle.format.specs.Bytes.{Bytes}
use Rattle.format.specs.Record.{record_size}
use Rattle.format.specs.Reading.{Placed}
use Rattle.calls.specs.Image.{put}
use Rattle.calls.specs.Areas.{file_areas}
use Rattle.calls.specs.Mount.{records_of}
use Rattle.calls.specs.Storing.{Fit, spaces}
use Rattle.calls.specs.declared.Descriptor.{Descriptor}
use Rattle.demand2.specs.Area.{Whole}
use Rattle.demand2.specs.Store.{free_place, RecordFits, FirstWithRoom}

-- no area is listed twice
abbrev pub Distinct : List Descriptor → Type 0
Distinct [] = Unit {0}
Distinct (d ∷ l) = (¬ Memᴰ d l) × Distinct l

-- the area that `first_fit` found for b, and the spaces after b, a whole record, is stored there
pub record Fitted (image : Bytes) (ds fs : List Descriptor) (b : Bytes) (f : Fit) : Type 0 where
  pub area : Descriptor
  pub among : Memᴰ area fs
  pub fits : RecordFits image ds area b
  pub first : FirstWithRoom image fs area b
  pub placed_at : f.place ≡ free_place image area
  pub left_is : Whole record_size b → spaces (put image (free_place image area) b) fs ≡ f.left

-- the records bs stored one after the other, each at the start of the free space of the first clean file area with room for it, as the image stood
-- when it was placed
pub data Written (ds : List Descriptor) : Bytes → List Bytes → Bytes → Type 0 where
  all_written : {image : Bytes} → Written ds image [] image
  written : {image image' b : Bytes} {bs : List Bytes} (area : Descriptor) → RecordFits image ds area b
      → FirstWithRoom image (file_areas image ds) area b → Whole record_size b
      → Written ds (put image (free_place image area) b) bs image' → Written ds image (b ∷ bs) image'

-- an area afterwards: its old records, in order, at their old places, and then some of the new ones
pub record AreaGrown (image image' : Bytes) (d : Descriptor) (bs : List Bytes) : Type 0 where
  pub more : List Placed
  pub reads : records_of image' d ≡ records_of image d ++ more
  pub new : (r : Placed) → Memᴰ r more → Memᴰ r.bytes bs
