-- Area descriptors. Document 01, "What a call is given".
use Rattle.std.specs.Prelude.{ℕ, ◌+◌, List, [], ◌∷◌, Bool, true, cond, ◌&&◌, ◌||◌, length, take, drop, leb, eqb}
use Rattle.format.specs.Bytes.{Bytes}
use Rattle.format.specs.AreaHeader.{is_file_area, is_scratch}
use Rattle.volume.specs.Lists.{keep, all}
use Rattle.calls.specs.declared.Descriptor.{Descriptor}

-- "The list ends at the first length 0 or at its end; later entries aren't looked at"
unfoldable pub listed : List Descriptor → List Descriptor
listed [] = []
listed (d ∷ l) = cond (eqb d.length 0) [] (d ∷ listed l)

-- From here on a list of descriptors is one that `listed` has cut.

-- T-06: "Raise .. descriptors to 16"
abbrev pub most_areas : ℕ
most_areas = 16

abbrev pub shortest_area : ℕ
shortest_area = 128

abbrev pub largest_image : ℕ
largest_image = 65536

abbrev pub area_end : Descriptor → ℕ
area_end d = d.offset + d.length

-- "each length 128 to 65,536, each wholly inside the image"
unfoldable pub good_area : ℕ → Descriptor → Bool
good_area size d = leb shortest_area d.length && leb d.length largest_image && leb (area_end d) size

unfoldable pub disjoint : Descriptor → Descriptor → Bool
disjoint d e = leb (area_end d) e.offset || leb (area_end e) d.offset

-- "no two overlapping"
unfoldable pub all_disjoint : List Descriptor → Bool
all_disjoint [] = true
all_disjoint (d ∷ l) = all (disjoint d) l && all_disjoint l

-- Good: 1 to 16 entries (T-06), ..
unfoldable pub good_areas : ℕ → List Descriptor → Bool
good_areas size ds = leb 1 (length ds) && leb (length ds) most_areas && all (good_area size) ds && all_disjoint ds

-- the bytes of an area
abbrev pub area_bytes : Bytes → Descriptor → Bytes
area_bytes image d = take d.length (drop d.offset image)

-- "A descriptor without a valid header is passed over"
unfoldable pub file_areas : Bytes → List Descriptor → List Descriptor
file_areas image ds = keep (λ d. is_file_area d.length (area_bytes image d)) ds

unfoldable pub scratch_areas : Bytes → List Descriptor → List Descriptor
scratch_areas image ds = keep (λ d. is_scratch d.length (area_bytes image d)) ds
