-- Mounting: checks 1 to 7, and the records of a volume. Document 01, "Numbers of refusal" and "What counts".
use Rattle.std.specs.Prelude.{ℕ, ◌/◌, List, [], ◌∷◌, ◌++◌, map, Bool, true, not, ◌||◌, length, leb, ltb, eqb}
use Rattle.format.specs.Bytes.{Bytes}
use Rattle.format.specs.Ids.{root_id}
use Rattle.format.specs.Record.{inode, record_size}
use Rattle.format.specs.AreaHeader.{area_id}
use Rattle.format.specs.Reading.{Placed, area_records}
use Rattle.volume.specs.Lists.{all, once, has}
use Rattle.volume.specs.View.{by_bytes}
use Rattle.volume.specs.Counting.{Volume, volume_of, all_agree, inode_of, inode_ids, block_ids}
use Rattle.calls.specs.Refusal.{Check, ◌refused_by◌, first_refusal}
use Rattle.calls.specs.Areas.{largest_image, good_areas, area_bytes, file_areas, scratch_areas}
use Rattle.calls.specs.declared.Descriptor.{Descriptor}

-- "An area reads as the list of records taken, each with place and bytes"
abbrev pub records_of : Bytes → Descriptor → List Placed
records_of image d = area_records record_size (area_bytes image d)

-- records by their bytes alone
abbrev pub bytes_of : List Placed → List Bytes
bytes_of = map (λ p. p.bytes)

-- the records taken in areas, area after area
unfoldable pub records_in : Bytes → List Descriptor → List Bytes
records_in image [] = []
records_in image (d ∷ ds) = bytes_of (records_of image d) ++ records_in image ds

-- "all records in file areas", in descriptor order
unfoldable pub accepted_records : Bytes → List Descriptor → List Bytes
accepted_records image ds = records_in image (file_areas image ds)

unfoldable pub volume : Bytes → List Descriptor → Volume Bytes
volume image ds = volume_of by_bytes (accepted_records image ds)

-- T-06: "Raise inodes to 256, blocks to 1,024"
abbrev pub most_inodes : ℕ
most_inodes = 256

abbrev pub most_blocks : ℕ
most_blocks = 1024

-- no more records than this fit in the largest image: none is shorter than an inode's header
abbrev pub most_records : ℕ
most_records = largest_image / inode.header_size

unfoldable pub bad_description : Bytes → List Descriptor → Bool
bad_description image ds = ltb largest_image (length image) || not (good_areas (length image) ds)

unfoldable pub shared_area_id : Bytes → List Descriptor → Bool
shared_area_id image fs = let ids = map (λ d. area_id (area_bytes image d)) fs in ltb (length (once ids)) (length ids)

unfoldable pub wrong_areas : List Descriptor → List Descriptor → Bool
wrong_areas fs ss = eqb (length fs) 0 || not (eqb (length ss) 1)

unfoldable pub short_scratch : List Descriptor → List Descriptor → Bool
short_scratch fs ss = not (all (λ s. all (λ f. leb f.length s.length) fs) ss)

unfoldable pub too_many_ids : Volume Bytes → Bool
too_many_ids v = ltb most_inodes (length (inode_ids by_bytes v)) || ltb most_blocks (length (block_ids by_bytes v))

unfoldable pub no_root : Volume Bytes → Bool
no_root v = not (has (λ r. true) (inode_of by_bytes v root_id))

-- "A file system mounts when checks 1 to 7 pass"
unfoldable pub mount_checks : Bytes → List Descriptor → List Check
mount_checks image ds =
    (bad_description image ds refused_by 1)
    ∷ (shared_area_id image (file_areas image ds) refused_by 2)
    ∷ (wrong_areas (file_areas image ds) (scratch_areas image ds) refused_by 3)
    ∷ (short_scratch (file_areas image ds) (scratch_areas image ds) refused_by 4)
    ∷ (too_many_ids (volume image ds) refused_by 5)
    ∷ (not (all_agree by_bytes (accepted_records image ds)) refused_by 6)
    ∷ (no_root (volume image ds) refused_by 7)
    ∷ []

unfoldable pub mount_number : Bytes → List Descriptor → ℕ
mount_number image ds = first_refusal (mount_checks image ds)
