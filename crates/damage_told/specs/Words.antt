-- "Say where the damage is" (document 02, T-08): what the numbers of an area's reading and of the report mean, byte by byte.
--
-- Offsets in an area count from its start, those of the report from the image's.
use Rattle.std.specs.Prelude.{ℕ, ◌+◌, ◌-◌, ◌≤◌, ◌<◌, ◌≡◌, ◌⊎◌, ◌≢◌, ◌↔◌, true, length}
use mathlib.Core.List.{List, [], ◌∷◌, ◌++◌, Memᴰ}
use Rattle.format.specs.Bytes.{Bytes, byte_at}
use Rattle.format.specs.Record.{record_size}
use Rattle.format.specs.AreaHeader.{area_header_size}
use Rattle.format.specs.Reading.{ERASED, Placed, Stretch, free_size, total_size, first_stretch, area_parts, area_records, area_damage, area_free, area_clean}
use Rattle.calls.specs.Areas.{area_bytes, area_end, file_areas}
use Rattle.calls.specs.declared.Descriptor.{Descriptor}
use Rattle.calls.specs.declared.Report.{Report}
use Rattle.calls.specs.declared.AreaReport.{AreaReport}

-- ---- the bytes of an area

-- the byte at p is one of a record that is taken
abbrev pub InRecord : Bytes → ℕ → Type 0
InRecord area p = (r : Placed) × Memᴰ r (area_records record_size area) × (r.place ≤ p) × (p < r.place + length r.bytes)

-- it is damaged: behind the header, before the free space, and in no record
abbrev pub IsDamaged : Bytes → ℕ → Type 0
IsDamaged area p = (area_header_size ≤ p) × (p < area_free record_size area) × ¬ InRecord area p

-- it is one of the stretch d
abbrev pub InStretch : Stretch → ℕ → Type 0
InStretch d p = (d.place ≤ p) × (p < d.place + d.size)

-- ---- stretches

-- "a maximal run": one byte or more, all of them damaged, but neither the one before them nor the one behind them
pub record Run (area : Bytes) (d : Stretch) : Type 0 where
  pub some : 0 < d.size
  pub all : (p : ℕ) → InStretch d p → IsDamaged area p
  pub before : ¬ IsDamaged area (d.place - 1)
  pub behind : ¬ IsDamaged area (d.place + d.size)

-- the first run: no byte before it is damaged
pub record FirstRun (area : Bytes) (d : Stretch) : Type 0 where
  pub run : Run area d
  pub first : (p : ℕ) → p < d.place → ¬ IsDamaged area p

-- stretches in ascending order, apart: each ends before any later one starts
pub data Ascending : List Stretch → Type 0 where
  none : Ascending []
  next : {d : Stretch} {l : List Stretch} → ((e : Stretch) → Memᴰ e l → d.place + d.size < e.place) → Ascending l → Ascending (d ∷ l)

-- the bytes that some records take up
unfoldable pub record_bytes : List Placed → ℕ
record_bytes [] = 0
record_bytes (r ∷ l) = length r.bytes + record_bytes l

-- ---- the theorem of an area

pub record AreaTold (area : Bytes) : Type 0 where
  -- every damage stretch is a run of damaged bytes
  pub runs : (d : Stretch) → Memᴰ d (area_damage record_size area) → Run area d
  -- every damaged byte is in one
  pub found : (p : ℕ) → IsDamaged area p → (d : Stretch) × Memᴰ d (area_damage record_size area) × InStretch d p
  -- they stand in ascending order, apart
  pub order : Ascending (area_damage record_size area)
  -- T-08: "the offset of the first damage stretch and its length .."
  pub first : 0 < (first_stretch (area_damage record_size area)).size → FirstRun area (first_stretch (area_damage record_size area))
  -- ".. (both 0 if there is none)"
  pub none : (first_stretch (area_damage record_size area)).size ≡ 0
      → ((first_stretch (area_damage record_size area)).place ≡ 0) × ((p : ℕ) → ¬ IsDamaged area p)
  -- "An area is clean when it has no damage"
  pub empty : (area_damage record_size area ≡ []) ↔ ((p : ℕ) → ¬ IsDamaged area p)
  pub clean : (area_clean record_size area ≡ true) ↔ ((p : ℕ) → ¬ IsDamaged area p)
  -- "The part of the last stretch that is FF up to the area's end is free space": FF and in no record; a damaged byte right before it is not FF
  pub free : (p : ℕ) → area_free record_size area ≤ p → p < length area → (byte_at area p ≡ ERASED) × ¬ InRecord area p
  pub last : IsDamaged area (area_free record_size area - 1) → byte_at area (area_free record_size area - 1) ≢ ERASED
  -- so a byte behind the header is damaged exactly if it is in no record, and it or one behind it is in a record or not FF
  pub damaged : (p : ℕ) → IsDamaged area p
      ↔ ((area_header_size ≤ p) × (¬ InRecord area p) × ((q : ℕ) × (p ≤ q) × (q < length area) × (InRecord area q ⊎ (byte_at area q ≢ ERASED))))
  -- header, records, damage and free space make up the area
  pub sum : area_header_size + record_bytes (area_records record_size area) + total_size (area_damage record_size area) + free_size (area_parts record_size area)
      ≡ length area

-- ---- the theorem of the report

-- each of some areas is clean
abbrev pub AllClean : Bytes → List Descriptor → Type 0
AllClean image fs = (d : Descriptor) → Memᴰ d fs → area_clean record_size (area_bytes image d) ≡ true

-- T-08: "the first of these over the file areas in descriptor order, as an offset in the image"
pub record FirstDamage (image : Bytes) (ds : List Descriptor) (r : Report) : Type 0 where
  pub before : List Descriptor
  pub area : Descriptor
  pub behind : List Descriptor
  -- "over the file areas in descriptor order": those before the area are clean
  pub split : file_areas image ds ≡ before ++ (area ∷ behind)
  pub clean : AllClean image before
  -- "the first of these": of the area's stretches
  pub stretch : Stretch
  pub is : stretch ≡ first_stretch (area_damage record_size (area_bytes image area))
  pub run : FirstRun (area_bytes image area) stretch
  -- "as an offset in the image"
  pub place : r.first_offset ≡ area.offset + stretch.place
  pub size : r.first_length ≡ stretch.size
  -- it lies in the area, behind the header
  pub starts : area.offset + area_header_size ≤ r.first_offset
  pub ends : r.first_offset + r.first_length ≤ area_end area

-- the sum of a number of each of some areas
unfoldable pub sum_over : (Descriptor → ℕ) → List Descriptor → ℕ
sum_over f [] = 0
sum_over f (d ∷ fs) = f d + sum_over f fs

-- of a volume that mounts
pub record ReportTold (image : Bytes) (ds : List Descriptor) (r : Report) : Type 0 where
  -- "damage stretches, damage bytes over file areas"
  pub stretches : r.stretches ≡ sum_over (λ d. length (area_damage record_size (area_bytes image d))) (file_areas image ds)
  pub skipped : r.skipped ≡ sum_over (λ d. total_size (area_damage record_size (area_bytes image d))) (file_areas image ds)
  -- "(both 0 if there is none)": exactly when all file areas are clean, and then no damage is counted
  pub none : (r.first_length ≡ 0) ↔ AllClean image (file_areas image ds)
  pub zeros : r.first_length ≡ 0 → (r.first_offset ≡ 0) × (r.stretches ≡ 0) × (r.skipped ≡ 0)
  -- otherwise
  pub first : 0 < r.first_length → FirstDamage image ds r

-- of any image and list: a refused report's zeros tell nothing
pub record Reported (image : Bytes) (ds : List Descriptor) (r : Report) : Type 0 where
  pub mounted : r.number ≡ 0 → ReportTold image ds r
  -- "A refused answer's other numbers are 0"
  pub refused : r.number ≢ 0 → (r.stretches ≡ 0) × (r.skipped ≡ 0) × (r.first_offset ≡ 0) × (r.first_length ≡ 0)

-- ---- the theorem of the report of one area

-- the stretch that it gives
abbrev pub given : AreaReport → Stretch
given r = record { place = r.offset; size = r.length }

-- the reports of an area that is in a good list, of whatever kind: r k is asked for stretch k
pub record AreaReportTold (area : Bytes) (r : ℕ → AreaReport) : Type 0 where
  -- only the stretch that is given depends on k
  pub same : (k : ℕ) → ((r k).stretches ≡ (r 0).stretches) × ((r k).skipped ≡ (r 0).skipped) × ((r k).free ≡ (r 0).free) × ((r k).records ≡ (r 0).records)
  -- those below the number of stretches are runs of damaged bytes ..
  pub runs : (k : ℕ) → k < (r 0).stretches → Run area (given (r k))
  -- .. in ascending order, apart, ..
  pub order : (j k : ℕ) → j < k → k < (r 0).stretches → (r j).offset + (r j).length < (r k).offset
  -- .. in which every damaged byte is; "both 0 if there is none"
  pub found : (p : ℕ) → IsDamaged area p → (k : ℕ) × (k < (r 0).stretches) × InStretch (given (r k)) p
  pub none : (k : ℕ) → (r 0).stretches ≤ k → ((r k).offset ≡ 0) × ((r k).length ≡ 0)
  -- T-08: "the offset of the first damage stretch and its length"
  pub first : 0 < (r 0).stretches → FirstRun area (given (r 0))
  -- as many bytes at the end are FF and in no record
  pub free : (p : ℕ) → length area ≤ p + (r 0).free → p < length area → (byte_at area p ≡ ERASED) × ¬ InRecord area p
  -- header, records, damage and free space make up the area
  pub sum : area_header_size + record_bytes (area_records record_size area) + (r 0).skipped + (r 0).free ≡ length area
