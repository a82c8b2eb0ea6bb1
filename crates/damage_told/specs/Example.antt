-- A volume of two file areas, the one that stands second in the image first in the list, by computation.
use Rattle.std.specs.Prelude.{ℕ, ◌-◌, ◌≡◌, List, [], ◌∷◌, ◌++◌, length, replicate}
use Rattle.format.specs.Bytes.{Bytes}
use Rattle.format.specs.Ids.{NONE}
use Rattle.format.specs.Record.{record_size}
use Rattle.format.specs.Encoding.{inode_bytes, area_header}
use Rattle.format.specs.Reading.{ERASED}
use Rattle.format.specs.Reading.{area_damage, area_free}
use Rattle.calls.specs.Areas.{area_bytes}
use Rattle.calls.specs.Mount.{mount_number}
use Rattle.calls.specs.Report.{report_of}
use Rattle.calls.specs.declared.Descriptor.{Descriptor}

-- an area of 128 bytes: some bytes behind its header, and then free space
unfoldable pub holding : ℕ → Bytes → Bytes
holding id bytes = let front = area_header 128 0 id ++ bytes in front ++ replicate (128 - length front) ERASED

-- a damaged byte; a damaged byte, the root and two damaged bytes; scratch
unfoldable pub image : Bytes
image = holding 1 (9 ∷ []) ++ (holding 0 (9 ∷ (inode_bytes 0 0 NONE [] ++ (8 ∷ 7 ∷ []))) ++ holding 255 [])

abbrev pub lower : Descriptor
lower = record { offset = 0; length = 128 }

abbrev pub upper : Descriptor
upper = record { offset = 128; length = 128 }

abbrev pub areas : List Descriptor
areas = upper ∷ lower ∷ record { offset = 256; length = 128 } ∷ []

pub record Computed : Type 0 where
  pub mounts : mount_number image areas ≡ 0
  -- the first stretch of the area listed first: offset 128 + 24
  pub offset : (report_of image areas).first_offset ≡ 152
  pub size : (report_of image areas).first_length ≡ 1
  pub stretches : (report_of image areas).stretches ≡ 3
  pub skipped : (report_of image areas).skipped ≡ 4
  pub in_upper : area_damage record_size (area_bytes image upper) ≡ record { place = 24; size = 1 } ∷ record { place = 45; size = 2 } ∷ []
  pub in_lower : area_damage record_size (area_bytes image lower) ≡ record { place = 24; size = 1 } ∷ []
  pub free : area_free record_size (area_bytes image upper) ≡ 47
  pub long : length (area_bytes image upper) ≡ 128
  pub also_long : length (area_bytes image lower) ≡ 128
