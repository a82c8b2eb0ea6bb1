-- The places of the records of areas in the image.
use Rattle.std.specs.Prelude.{ℕ, ◌+◌, ◌*◌, ◌≤◌, ◌<◌, ◌≡◌, List, [], ◌∷◌, ◌++◌, length, take, get_or}
use Rattle.format.specs.Bytes.{Bytes}
use Rattle.format.specs.Record.{record_size}
use Rattle.format.specs.AreaHeader.{area_header_size}
use Rattle.format.specs.Reading.{Placed, area_records}
use Rattle.calls.specs.Areas.{shortest_area, largest_image}
use Rattle.calls.specs.Mount.{most_records, records_of}
use Rattle.area_list.specs.Described.{described}
use Rattle.area_list.specs.Places.{total_length}
use Rattle.calls.specs.declared.Descriptor.{Descriptor}

-- the places in the image of the records of an area that starts at base
unfoldable pub record_places : ℕ → List Placed → List ℕ
record_places base [] = []
record_places base (r ∷ l) = (base + r.place) ∷ record_places base l

-- the places of the records of areas, area after area
unfoldable pub places_in : Bytes → List Descriptor → List ℕ
places_in image [] = []
places_in image (d ∷ ds) = record_places d.offset (records_of image d) ++ places_in image ds

-- there is a place for each record: it has at least 20 bytes, and an area's header 24
pub record Room (area : Bytes) (base : ℕ) (ps : List ℕ) (n : ℕ) : Type 0 where
  pub header : area_header_size ≤ length area
  pub inside : base + length area ≤ largest_image
  pub room : 20 * n + length area ≤ 20 * length ps + area_header_size

pub record Listed (area : Bytes) (base : ℕ) (ps : List ℕ) (n r : ℕ) (ps' : List ℕ) : Type 0 where
  pub is : take r ps' ≡ take n ps ++ record_places base (area_records record_size area)
  pub few : 20 * r + area_header_size ≤ 20 * n + length area

-- file areas that lie in the image
pub record AreasFit (image : Bytes) (starts spans : List ℕ) : Type 0 where
  pub small : length image ≤ largest_image
  pub pairs : length spans ≡ length starts
  pub long : (i : ℕ) → i < length starts → shortest_area ≤ get_or spans i 0
  pub inside : (i : ℕ) → i < length starts → get_or starts i 0 + get_or spans i 0 ≤ length image

-- and lie apart, so that together they are no longer than an image; and a place for each record that they can hold
pub record Files (image : Bytes) (starts spans ps : List ℕ) : Type 0 where
  pub fit : AreasFit image starts spans
  pub apart : total_length (described starts spans) ≤ largest_image
  pub room : most_records ≤ length ps
