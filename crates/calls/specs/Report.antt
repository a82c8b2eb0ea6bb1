-- The report. Document 01, "Calls": "distinct inode ids, live ones, damage stretches, damage bytes over file areas", and T-08.
use Rattle.std.specs.Prelude.{ℕ, ◌+◌, List, [], ◌∷◌, ◌++◌, map, cond, length, eqb}
use Rattle.format.specs.Bytes.{Bytes}
use Rattle.format.specs.Record.{record_size}
use Rattle.format.specs.Reading.{Stretch, area_damage, total_size, first_stretch}
use Rattle.volume.specs.View.{by_bytes}
use Rattle.volume.specs.Counting.{inode_ids}
use Rattle.volume.specs.Fate.{live_ids}
use Rattle.calls.specs.Areas.{area_bytes, file_areas}
use Rattle.calls.specs.Mount.{volume, mount_number}
use Rattle.calls.specs.declared.Descriptor.{Descriptor}
use Rattle.calls.specs.declared.Report.{Report}

-- T-08: "as an offset in the image", of stretches in an area that starts at o
abbrev pub in_image : ℕ → List Stretch → List Stretch
in_image o = map (λ d. record { place = o + d.place; size = d.size })

-- the damage of areas, area after area
unfoldable pub damage_in : Bytes → List Descriptor → List Stretch
damage_in image [] = []
damage_in image (d ∷ ds) = in_image d.offset (area_damage record_size (area_bytes image d)) ++ damage_in image ds

-- "A refused answer's other numbers are 0"
abbrev pub refused_report : ℕ → Report
refused_report n = record { number = n; inodes = 0; live = 0; stretches = 0; skipped = 0; first_offset = 0; first_length = 0 }

-- T-08: "The report passes on the first of these over the file areas in descriptor order"
unfoldable pub mounted_report : Bytes → List Descriptor → Report
mounted_report image ds = let damage = damage_in image (file_areas image ds) in record {
  number = 0;
  inodes = length (inode_ids by_bytes (volume image ds));
  live = length (live_ids by_bytes (volume image ds));
  stretches = length damage;
  skipped = total_size damage;
  first_offset = (first_stretch damage).place;
  first_length = (first_stretch damage).size;
}

unfoldable pub report_of : Bytes → List Descriptor → Report
report_of image ds = cond (eqb (mount_number image ds) 0) (mounted_report image ds) (refused_report (mount_number image ds))
