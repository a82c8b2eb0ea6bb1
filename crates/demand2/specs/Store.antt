-- The whole image: one record stored in a clean file area. That area reads as its old records followed by the new one, and nothing else changes.
use Rattle.std.specs.Prelude.{ℕ, ◌+◌, ◌≤◌, ◌<◌, ◌≡◌, ◌≢◌, true, length, take}
use mathlib.Core.List.{List, [], ◌∷◌, ◌++◌, Memᴰ}
use Rattle.format.specs.Bytes.{Bytes}
use Rattle.format.specs.AreaHeader.{area_header_size}
use Rattle.format.specs.Record.{record_size}
use Rattle.format.specs.Reading.{area_free, area_clean}
use Rattle.calls.specs.Image.{part, erased}
use Rattle.calls.specs.Areas.{area_end, area_bytes, file_areas}
use Rattle.calls.specs.Mount.{records_of}
use Rattle.calls.specs.declared.Descriptor.{Descriptor}

-- where an area's free space starts, in the image
abbrev pub free_place : Bytes → Descriptor → ℕ
free_place image d = d.offset + area_free record_size (area_bytes image d)

-- the record b fits into the free space of a clean file area: "a damaged area waits for collection"
pub record RecordFits (image : Bytes) (ds : List Descriptor) (area : Descriptor) (b : Bytes) : Type 0 where
  pub file : Memᴰ area (file_areas image ds)
  pub clean : area_clean record_size (area_bytes image area) ≡ true
  pub room : free_place image area + length b ≤ area_end area

-- "Each record goes to the first clean file area, in descriptor order, with room": of the file areas fs, no clean one before area has room for b
pub record FirstWithRoom (image : Bytes) (fs : List Descriptor) (area : Descriptor) (b : Bytes) : Type 0 where
  pub before : List Descriptor
  pub behind : List Descriptor
  pub split : fs ≡ before ++ (area ∷ behind)
  pub no_room : (d : Descriptor) → Memᴰ d before → area_clean record_size (area_bytes image d) ≡ true
      → area_end d < free_place image d + length b

-- what becomes of the image when it is stored there
-- every area has the header that it had
abbrev pub SameHeaders : Bytes → Bytes → List Descriptor → Type 0
SameHeaders image image' ds = (d : Descriptor) → Memᴰ d ds → take area_header_size (area_bytes image' d) ≡ take area_header_size (area_bytes image d)

pub record OneStored (image image' : Bytes) (ds : List Descriptor) (area : Descriptor) (b : Bytes) : Type 0 where
  pub one_length : length image' ≡ length image
  pub headers : SameHeaders image image' ds
  -- the area reads as its old records followed by the new one, and stays clean
  pub reads : records_of image' area ≡ records_of image area ++ (record { place = area_free record_size (area_bytes image area); bytes = b } ∷ [])
  pub clean : area_clean record_size (area_bytes image' area) ≡ true
  pub free : area_free record_size (area_bytes image' area) ≡ area_free record_size (area_bytes image area) + length b
  -- "over FF bytes only"
  pub over_erased : part image (free_place image area) (length b) ≡ erased (length b)
  -- every other area has the bytes that it had
  pub elsewhere : (d : Descriptor) → Memᴰ d ds → d ≢ area → area_bytes image' d ≡ area_bytes image d
