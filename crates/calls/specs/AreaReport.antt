-- The report of one area: its header, and what its reading comes to, of any kind of area and whether or not the volume mounts. T-08: "The reading
-- of an area now gives, besides the counts, the offset of the first damage stretch and its length"; here of the stretch that is asked for.
use Rattle.std.specs.Prelude.{ℕ, List, [], ◌∷◌, cond, length, drop, get_or, eqb, leb}
use Rattle.format.specs.Bytes.{Bytes}
use Rattle.format.specs.AreaHeader.{collection_count, area_id, valid_header, is_file_area, is_scratch}
use Rattle.format.specs.Record.{record_size}
use Rattle.format.specs.Reading.{free_size, total_size, first_stretch, area_parts, area_records, area_damage}
use Rattle.calls.specs.Refusal.{◌refused_by◌, first_refusal}
use Rattle.calls.specs.Areas.{area_bytes}
use Rattle.calls.specs.Mount.{bad_description}
use Rattle.calls.specs.declared.Descriptor.{Descriptor}
use Rattle.calls.specs.declared.AreaReport.{AreaReport}

-- 0: "without a valid header", 1: a file area, 2: scratch
unfoldable pub kind_number : ℕ → Bytes → ℕ
kind_number n area = cond (is_file_area n area) 1 (cond (is_scratch n area) 2 0)

-- a number of the header, 0 where it is not valid
unfoldable pub if_valid : ℕ → Bytes → ℕ → ℕ
if_valid n area x = cond (valid_header n area) x 0

-- the area and its damage stretch k, from 0; offset and length are "both 0 if there is none"
unfoldable pub area_report : Bytes → Descriptor → ℕ → AreaReport
area_report image d k = let area = area_bytes image d in let damage = area_damage record_size area in record {
  number = 0;
  kind = kind_number d.length area;
  id = if_valid d.length area (area_id area);
  count = if_valid d.length area (collection_count area);
  records = length (area_records record_size area);
  stretches = length damage;
  skipped = total_size damage;
  free = free_size (area_parts record_size area);
  offset = (first_stretch (drop k damage)).place;
  length = (first_stretch (drop k damage)).size;
}

-- "A refused answer's other numbers are 0"
abbrev pub refused_area_report : ℕ → AreaReport
refused_area_report n = record { number = n; kind = 0; id = 0; count = 0; records = 0; stretches = 0; skipped = 0; free = 0; offset = 0; length = 0 }

-- check 1; and 1 where the list has no area i, from 0
unfoldable pub area_report_number : Bytes → List Descriptor → ℕ → ℕ
area_report_number image ds i = first_refusal ((bad_description image ds refused_by 1) ∷ (leb (length ds) i refused_by 1) ∷ [])

unfoldable pub area_report_of : Bytes → List Descriptor → ℕ → ℕ → AreaReport
area_report_of image ds i k =
    let number = area_report_number image ds i in
    cond (eqb number 0) (area_report image (get_or ds i (record { offset = 0; length = 0 })) k) (refused_area_report number)
