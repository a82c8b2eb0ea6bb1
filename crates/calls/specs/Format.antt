-- Format. Document 01, "Calls".
use Rattle.std.specs.Prelude.{ℕ, suc, max, ◌+◌, ◌-◌, List, [], ◌∷◌, ◌++◌, cond, length, eqb, ltb}
use Rattle.format.specs.Bytes.{Bytes}
use Rattle.format.specs.Ids.{NONE, root_id}
use Rattle.format.specs.AreaHeader.{area_header_size, scratch_id}
use Rattle.format.specs.Encoding.{inode_bytes, area_header}
use Rattle.calls.specs.Image.{put, erased}
use Rattle.calls.specs.Refusal.{◌refused_by◌, first_refusal}
use Rattle.calls.specs.Mount.{bad_description}
use Rattle.calls.specs.declared.Descriptor.{Descriptor}

-- an area with a header and nothing behind it
unfoldable pub empty_area : ℕ → ℕ → ℕ → Bytes
empty_area size count id = area_header size count id ++ erased (size - area_header_size)

-- "checks 1, then 3 if fewer than two entries"
unfoldable pub format_number : Bytes → List Descriptor → ℕ
format_number image ds = first_refusal ((bad_description image ds refused_by 1) ∷ (ltb (length ds) 2 refused_by 3) ∷ [])

unfoldable pub longest_length : List Descriptor → ℕ
longest_length [] = 0
longest_length (d ∷ ds) = max d.length (longest_length ds)

-- an area and the id that it gets
pub record Labelled : Type 0 where
  pub area : Descriptor
  pub id : ℕ

-- file areas get the ids n, n + 1, .. in order
unfoldable pub numbered : ℕ → List Descriptor → List Labelled
numbered n [] = []
numbered n (d ∷ ds) = record { area = d; id = n } ∷ numbered (suc n) ds

-- "The longest, first among equals, is scratch; the others get ids 0, 1, ... in order"
unfoldable pub labelled : ℕ → ℕ → List Descriptor → List Labelled
labelled most n [] = []
labelled most n (d ∷ ds) =
    cond (eqb d.length most) (record { area = d; id = scratch_id } ∷ numbered n ds) (record { area = d; id = n } ∷ labelled most (suc n) ds)

-- "erases the described areas to FF, writes headers with count 0"
unfoldable pub blanked : Bytes → List Labelled → Bytes
blanked image [] = image
blanked image (l ∷ ls) = blanked (put image l.area.offset (empty_area l.area.length 0 l.id)) ls

-- "The root record (sequence 0) goes to the first file area"
abbrev pub root_bytes : Bytes
root_bytes = inode_bytes root_id 0 NONE []

unfoldable pub rooted : Bytes → List Labelled → Bytes
rooted image [] = image
rooted image (l ∷ ls) = cond (eqb l.id 0) (put image (l.area.offset + area_header_size) root_bytes) (rooted image ls)

unfoldable pub formatted : Bytes → List Descriptor → Bytes
formatted image ds = let ls = labelled (longest_length ds) 0 ds in rooted (blanked image ls) ls

-- a refused format changes no byte
unfoldable pub image_formatted : Bytes → List Descriptor → Bytes
image_formatted image ds = cond (eqb (format_number image ds) 0) (formatted image ds) image
