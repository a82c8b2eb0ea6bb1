-- Collect. Document 01, "Collect"; source document 004 on garbage collection.
use Rattle.std.specs.Prelude.{ℕ, ◌+◌, ◌-◌, ◌%◌, List, [], ◌∷◌, ◌++◌, Bool, cond, not, ◌&&◌, ◌||◌, length, take, drop, eqb, leb}
use Rattle.std.proofs.Math.Option.{Option, none, some}
use Rattle.format.specs.Bytes.{Bytes}
use Rattle.format.specs.Record.{record_id, record_link}
use Rattle.format.specs.AreaHeader.{area_header_size, area_id, collection_count, scratch_id}
use Rattle.format.specs.Reading.{ERASED}
use Rattle.format.specs.Encoding.{area_header}
use Rattle.volume.specs.Lists.{keep, all, first, has, same}
use Rattle.volume.specs.View.{by_bytes}
use Rattle.volume.specs.Counting.{Volume, inode_of, block_of}
use Rattle.volume.specs.Fate.{is_dead, fate_of, block_dead}
use Rattle.calls.specs.Image.{erased}
use Rattle.calls.specs.Areas.{area_bytes, file_areas, scratch_areas}
use Rattle.calls.specs.Mount.{records_of, bytes_of, records_in, volume, mount_number}
use Rattle.calls.specs.Storing.{Store, store_all}
use Rattle.calls.specs.Attempt.{Attempt, goes, refuses, number_of, leaves, unless}
use Rattle.calls.specs.declared.Descriptor.{Descriptor}

-- ---- the source area

-- those "as long as scratch"
unfoldable pub eligible : List Descriptor → Descriptor → List Descriptor
eligible fs scratch = keep (λ d. eqb d.length scratch.length) fs

-- the collection count of an area
abbrev pub count_of : Bytes → Descriptor → ℕ
count_of image d = collection_count (area_bytes image d)

-- T-14: "count a precedes count b when (b - a) taken modulo 256 is 1 to 127"; a count is a byte
unfoldable pub precedes : ℕ → ℕ → Bool
precedes a b = let n = (b + 256 - a) % 256 in leb 1 n && leb n 127

-- none of some areas precedes the area d
unfoldable pub unpreceded : Bytes → List Descriptor → Descriptor → Bool
unpreceded image es d = all (λ e. not (precedes (count_of image e) (count_of image d))) es

-- T-14: "the first eligible one .., in descriptor order, that no eligible area precedes; if there is none, the first eligible one"
unfoldable pub source_of : Bytes → List Descriptor → Descriptor → Option Descriptor
source_of image fs scratch = let es = eligible fs scratch in first (keep (unpreceded image es) es ++ es)

-- ---- the copies

-- the records of the file areas other than the source
unfoldable pub is_other : Descriptor → Descriptor → Bool
is_other s d = not (eqb s.offset d.offset)

unfoldable pub records_elsewhere : Bytes → List Descriptor → Descriptor → List Bytes
records_elsewhere image fs s = records_in image (keep (is_other s) fs)

-- a record counts
unfoldable pub counts : Volume Bytes → Bytes → Bool
counts v b = cond (by_bytes.is_block b) (has (same b) (block_of by_bytes v (record_id b))) (has (same b) (inode_of by_bytes v (record_id b)))

-- each record once, at its first place
unfoldable pub first_places : List Bytes → List Bytes
first_places [] = []
first_places (b ∷ bs) = b ∷ keep (λ c. not (same b c)) (first_places bs)

-- "A dead block isn't copied if no other file area has a record of its id"
unfoldable pub drops_block : Volume Bytes → List Bytes → Bytes → Bool
drops_block v elsewhere b = block_dead by_bytes v b && all (λ c. not (eqb (record_id c) (record_id b))) elsewhere

-- a record names an inode id "as id, parent or owner"
unfoldable pub names_inode : ℕ → Bytes → Bool
names_inode i c = eqb (record_id c) i || eqb (record_link c) i

-- "A dead inode isn't copied if no accepted record .. names its id as id, parent or owner, its own records in the source area apart"
unfoldable pub drops_inode : Volume Bytes → List Bytes → List Bytes → Bytes → Bool
drops_inode v source elsewhere b =
    is_dead (fate_of by_bytes v (record_id b))
    && all (λ c. not (names_inode (record_id b) c)) (keep (λ c. not (eqb (record_id c) (record_id b))) source ++ elsewhere)

unfoldable pub drops : Volume Bytes → List Bytes → List Bytes → Bytes → Bool
drops v source elsewhere b = cond (by_bytes.is_block b) (drops_block v elsewhere b) (drops_inode v source elsewhere b)

-- "the counting records that lie in the source are copied byte for byte in order of their first place there, each once"
unfoldable pub copies : Volume Bytes → List Bytes → List Bytes → List Bytes
copies v source elsewhere = keep (λ b. counts v b && not (drops v source elsewhere b)) (first_places source)

-- those of a collection of the source s
abbrev pub copied_records : Bytes → List Descriptor → Descriptor → List Bytes
copied_records image ds s = copies (volume image ds) (bytes_of (records_of image s)) (records_elsewhere image (file_areas image ds) s)

-- ---- the stores, in the order of document 02, T-04

-- an area is FF behind its header
unfoldable pub is_blank : Bytes → Bool
is_blank area = all (λ b. eqb b ERASED) (drop area_header_size area)

-- an area erased whole, and then its header
unfoldable pub reset_stores : Descriptor → Bytes → List Store
reset_stores d header = record { place = d.offset; bytes = erased d.length } ∷ record { place = d.offset; bytes = header } ∷ []

-- "A scratch area not FF after its header is erased first and its header restored"
unfoldable pub ready_stores : Bytes → Descriptor → List Store
ready_stores image scratch =
    let area = area_bytes image scratch in
    cond (is_blank area) [] (reset_stores scratch (take area_header_size area))

-- "Scratch takes the source's id": the last byte of its header
abbrev pub id_store : Descriptor → ℕ → Store
id_store scratch id = record { place = scratch.offset + 23; bytes = id ∷ [] }

-- records one behind the other from a place on
unfoldable pub record_stores : ℕ → List Bytes → List Store
record_stores p [] = []
record_stores p (b ∷ bs) = record { place = p; bytes = b } ∷ record_stores (p + length b) bs

-- "its count plus one (255 goes to 0)"
unfoldable pub next_count : ℕ → ℕ
next_count n = (n + 1) % 256

-- "the source is erased and becomes scratch with its count plus one"
abbrev pub scratch_stores : Bytes → Descriptor → List Store
scratch_stores image s = reset_stores s (area_header s.length (next_count (count_of image s)) scratch_id)

-- "scratch erased and its header restored if needed; the id byte of scratch; the copies, low byte first; the source erased, ..; its new header"
unfoldable pub collect_stores : Bytes → Descriptor → Descriptor → List Bytes → List Store
collect_stores image scratch s records =
    ready_stores image scratch
    ++ (id_store scratch (area_id (area_bytes image s)) ∷ (record_stores (scratch.offset + area_header_size) records ++ scratch_stores image s))

-- ---- the image afterwards

unfoldable pub collected : Bytes → List Descriptor → Descriptor → Descriptor → Bytes
collected image ds scratch s = store_all image (collect_stores image scratch s (copied_records image ds s))

-- a collect goes with the scratch and the source area; 17 is "no file area is as long as the scratch area"
abbrev pub collect_from : Descriptor → Option Descriptor → Attempt (Descriptor × Descriptor)
collect_from scratch none = refuses 17
collect_from scratch (some s) = goes (scratch, s)

abbrev pub collect_with : Bytes → List Descriptor → List Descriptor → Attempt (Descriptor × Descriptor)
collect_with image fs [] = refuses 3
collect_with image fs (scratch ∷ ss) = collect_from scratch (source_of image fs scratch)

unfoldable pub collecting : Bytes → List Descriptor → Attempt (Descriptor × Descriptor)
collecting image ds = unless (mount_number image ds) (collect_with image (file_areas image ds) (scratch_areas image ds))

unfoldable pub collect_of : Bytes → List Descriptor → ℕ
collect_of image ds = number_of (collecting image ds)

unfoldable pub image_collected : Bytes → List Descriptor → Bytes
image_collected image ds = leaves image (λ areas. collected image ds areas.0 areas.1) (collecting image ds)
