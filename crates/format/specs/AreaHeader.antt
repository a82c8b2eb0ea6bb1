-- The area header. Document 01, "Layouts": magic 4x4, length 4, version 1, collection count 1, reserved 1, area id 1.
use Rattle.std.specs.Prelude.{ℕ, Bool, not, ◌&&◌, eqb}
use Rattle.format.specs.Bytes.{Bytes, byte_at, le32}

abbrev pub area_header_size : ℕ
area_header_size = 24

-- the four magics
abbrev pub area_magic1 : ℕ
area_magic1 = 0xb98a31e2

abbrev pub area_magic2 : ℕ
area_magic2 = 0x7fb0428c

abbrev pub area_magic3 : ℕ
area_magic3 = 0xace08253

abbrev pub area_magic4 : ℕ
area_magic4 = 0xb185fc8e

abbrev pub header_length : Bytes → ℕ
header_length h = le32 h 16

abbrev pub header_version : Bytes → ℕ
header_version h = byte_at h 20

abbrev pub collection_count : Bytes → ℕ
collection_count h = byte_at h 21

abbrev pub header_reserved : Bytes → ℕ
header_reserved h = byte_at h 22

abbrev pub area_id : Bytes → ℕ
area_id h = byte_at h 23

unfoldable pub magics_right : Bytes → Bool
magics_right h = eqb (le32 h 0) area_magic1 && eqb (le32 h 4) area_magic2 && eqb (le32 h 8) area_magic3 && eqb (le32 h 12) area_magic4

-- "A valid area header has the four magics, version 0 and a length equal to its descriptor's"; T-14: ".. area headers whose reserved byte isn't 0 are
-- no longer .. valid", that of scratch too
unfoldable pub valid_header : ℕ → Bytes → Bool
valid_header n h = magics_right h && eqb (header_length h) n && eqb (header_version h) 0 && eqb (header_reserved h) 0

-- "Id 255 is scratch; any other is a file area"
abbrev pub scratch_id : ℕ
scratch_id = 255

unfoldable pub is_scratch : ℕ → Bytes → Bool
is_scratch n h = valid_header n h && eqb (area_id h) scratch_id

unfoldable pub is_file_area : ℕ → Bytes → Bool
is_file_area n h = valid_header n h && not (eqb (area_id h) scratch_id)
