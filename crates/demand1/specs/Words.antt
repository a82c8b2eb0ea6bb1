-- Demand 1, and what it says: "Any image, any area list, any path and any data may be handed in. Every call answers or refuses by one of the
-- numbers in document 01, given exactly when that document says. A refused call changes no byte of the image, of an output buffer or of a file
-- handle. Accepted calls change only the bytes that document 01 names." Document 02, T-01: "from here on demands 1 and 2 read document 01, its
-- numbers too, as these requests amend it".
use Rattle.std.specs.Prelude.{ℕ, ◌+◌, ◌≤◌, ◌<◌, ◌≡◌, ◌⊎◌, true, length}
use Rattle.std.proofs.Math.Option.{some}
use mathlib.Core.List.{List, [], ◌∷◌, ◌++◌, map, Memᴰ}
use Rattle.format.specs.Bytes.{Bytes, byte_at}
use Rattle.format.specs.Record.{record_size}
use Rattle.format.specs.Reading.{area_clean}
use Rattle.volume.specs.View.{by_bytes}
use Rattle.volume.specs.Path.{path_names}
use Rattle.volume.specs.Tree.{found, lookup_names}
use Rattle.calls.specs.Image.{part, erased}
use Rattle.calls.specs.Areas.{area_end, area_bytes, file_areas, scratch_areas}
use Rattle.calls.specs.Mount.{volume}
use Rattle.calls.specs.Storing.{Store}
use Rattle.calls.specs.Format.{format_number, image_formatted}
use Rattle.calls.specs.Report.{report_of}
use Rattle.calls.specs.AreaReport.{area_report_of}
use Rattle.calls.specs.Lookup.{resolve, lookup_of, open_of}
use Rattle.calls.specs.Read.{Given, read_given, read_answer, buffer_after, handle_after}
use Rattle.calls.specs.Create.{last_name, names_before, new_inode, create_of, image_created}
use Rattle.calls.specs.Append.{new_blocks, append_of, image_appended}
use Rattle.calls.specs.Rewrite.{rewritten}
use Rattle.calls.specs.Unlink.{deletion, unlink_of, image_unlinked}
use Rattle.calls.specs.Rename.{rename_of, image_renamed}
use Rattle.calls.specs.Overwrite.{overwrite_of, image_overwritten}
use Rattle.calls.specs.Collect.{source_of, collect_of, image_collected}
use Rattle.calls.specs.Attempt.{Attempt}
use Rattle.calls.specs.Tree.{attempt_tree, tree_answer, buffer_with}
use Rattle.calls.specs.declared.Descriptor.{Descriptor}
use Rattle.calls.specs.declared.Handle.{Handle}
use Rattle.calls_laws.specs.Checks.{InArea}
use Rattle.demand2.specs.Store.{free_place}
use Rattle.demand2.specs.NewRecord.{WrittenOne}
use Rattle.demand2.specs.Refused.{RefusedCalls}
use Rattle.demand1.specs.Table.{new_versions, Exactly}

-- ---- the numbers of each call; "0 is success"

-- "Format (checks 1, then 3 if fewer than two entries)"
abbrev pub format_numbers : List ℕ
format_numbers = 0 ∷ 1 ∷ 3 ∷ []

-- "Every call but format makes checks 1 to 7": a report has no other, nor has the tree (T-07)
abbrev pub report_numbers : List ℕ
report_numbers = 0 ∷ 1 ∷ 2 ∷ 3 ∷ 4 ∷ 5 ∷ 6 ∷ 7 ∷ []

-- of one area: 1, by check 1 or where the list has no such area
abbrev pub area_report_numbers : List ℕ
area_report_numbers = 0 ∷ 1 ∷ []

-- "8: bad path or name", "Where a path is walked, the first failing step decides among 9, 10 and 11": lookup and open
abbrev pub path_numbers : List ℕ
path_numbers = report_numbers ++ (8 ∷ 9 ∷ 10 ∷ 11 ∷ [])

-- "9: .. a handle's id isn't live", "11: a file where a directory is needed, or the reverse", "13: read .. of a broken file", "14: read begins
-- after the end"
abbrev pub read_numbers : List ℕ
read_numbers = report_numbers ++ (9 ∷ 11 ∷ 13 ∷ 14 ∷ [])

-- "12: create: the name is there", "15: a record fits in no clean file area"
abbrev pub create_numbers : List ℕ
create_numbers = path_numbers ++ (12 ∷ 15 ∷ [])

-- "13: .. append of a broken file"
abbrev pub append_numbers : List ℕ
append_numbers = path_numbers ++ (13 ∷ 15 ∷ [])

-- T-05: "refused as append is, 13 too; an offset or an end past the size is 14; such a block at sequence ffffffff is 16"
abbrev pub overwrite_numbers : List ℕ
overwrite_numbers = append_numbers ++ (14 ∷ 16 ∷ [])

-- "16: unlink: sequence is ffffffff"
abbrev pub unlink_numbers : List ℕ
unlink_numbers = path_numbers ++ (15 ∷ 16 ∷ [])

-- T-01: "Refusals 8 to 12, 15 and 16 apply", and "a new number, 18"
abbrev pub rename_numbers : List ℕ
rename_numbers = path_numbers ++ (12 ∷ 15 ∷ 16 ∷ 18 ∷ [])

-- "17: collect: no file area is as long as the scratch area"
abbrev pub collect_numbers : List ℕ
collect_numbers = report_numbers ++ (17 ∷ [])

-- "Every call answers or refuses by one of the numbers in document 01"
pub record Numbers (image : Bytes) (ds : List Descriptor) : Type 0 where
  pub format : Memᴰ (format_number image ds) format_numbers
  pub report : Memᴰ (report_of image ds).number report_numbers
  pub area_report_lem : (i k : ℕ) → Memᴰ (area_report_of image ds i k).number area_report_numbers
  pub lookup : (base path : Bytes) → Memᴰ (lookup_of image ds base path).number path_numbers
  pub opened : (base path : Bytes) → Memᴰ (open_of image ds base path).number path_numbers
  pub read : (id position room : ℕ) → Memᴰ (read_answer (read_given image ds id position room)).number read_numbers
  pub create : (base path : Bytes) (kind : ℕ) → Memᴰ (create_of image ds base path kind).number create_numbers
  pub append : (base path text : Bytes) → Memᴰ (append_of image ds base path text) append_numbers
  pub overwrite : (base path : Bytes) (offset : ℕ) (text : Bytes) → Memᴰ (overwrite_of image ds base path offset text) overwrite_numbers
  pub unlink : (base path : Bytes) → Memᴰ (unlink_of image ds base path) unlink_numbers
  pub rename : (base old new : Bytes) → Memᴰ (rename_of image ds base old new) rename_numbers
  pub collect : Memᴰ (collect_of image ds) collect_numbers
  pub tree : Memᴰ (tree_answer (attempt_tree image ds)).number report_numbers

-- ---- the bytes that a call changes

-- there are as many bytes, and only those at places of which P holds may differ
pub record ChangedOnly (P : ℕ → Type 0) (before after : Bytes) : Type 0 where
  pub one_length : length after ≡ length before
  pub others_kept : (i : ℕ) → ¬ P i → byte_at after i ≡ byte_at before i

-- the byte at i is one of those that are stored
abbrev pub InStore : Store → ℕ → Type 0
InStore s i = (s.place ≤ i) × (i < s.place + length s.bytes)

-- "over FF bytes only", in the free space of a clean file area; demand 2 says in which and where
pub record OverErased (image : Bytes) (ds : List Descriptor) (s : Store) : Type 0 where
  pub area : Descriptor
  pub file : Memᴰ area (file_areas image ds)
  pub clean : area_clean record_size (area_bytes image area) ≡ true
  pub in_free : (free_place image area ≤ s.place) × (s.place + length s.bytes ≤ area_end area)
  pub were_erased : part image s.place (length s.bytes) ≡ erased (length s.bytes)

-- the records bs are stored, each over erased bytes, and no other byte is changed
pub record OnlyStored (image image' : Bytes) (ds : List Descriptor) (bs : List Bytes) : Type 0 where
  pub stores : List Store
  pub each : map (λ s. s.bytes) stores ≡ bs
  pub over_erased : (s : Store) → Memᴰ s stores → OverErased image ds s
  pub changed : ChangedOnly (λ i. (s : Store) × Memᴰ s stores × InStore s i) image image'

-- "Each record goes to the first clean file area, in descriptor order, with room, at the start of its free space, over FF bytes only": the record b
-- alone is stored, and no other byte is changed
pub record OnlyOne (image image' : Bytes) (ds : List Descriptor) (b : Bytes) : Type 0 where
  pub written : WrittenOne image image' ds b
  pub were_erased : part image (free_place image written.area) (length b) ≡ erased (length b)
  pub changed : ChangedOnly (InStore (record { place = free_place image written.area; bytes = b })) image image'

-- "A read gives as many bytes as the buffer and the file allow, in the front of the buffer", "a read moves the position in place"
pub record OnlyRead (g : Given) (h : Handle) (buffer : Bytes) : Type 0 where
  pub fits : (read_answer g).given ≤ length buffer
  pub changed : ChangedOnly (λ i. i < (read_answer g).given) buffer (buffer_after g buffer)
  pub same_id : (handle_after g h).id ≡ h.id
  pub moved : (handle_after g h).position ≡ h.position + (read_answer g).given

-- T-07: the text in the front of the buffer, as much of it as fits; the length is that of the whole text
pub record OnlyTree (t : Attempt Bytes) (buffer : Bytes) : Type 0 where
  pub changed : ChangedOnly (λ i. i < (tree_answer t).length) buffer (buffer_with buffer t)

-- "Accepted calls change only the bytes that document 01 names". The reports, lookup, open, read and the tree leave no image.
pub record AcceptedCalls (image : Bytes) (ds : List Descriptor) : Type 0 where
  -- "erases the described areas to FF, writes headers .. The root record .. goes to the first file area"
  pub format : format_number image ds ≡ 0
      → ChangedOnly (λ i. (d : Descriptor) × Memᴰ d ds × InArea d i) image (image_formatted image ds)
  pub read : (h : Handle) (buffer : Bytes) → (read_answer (read_given image ds h.id h.position (length buffer))).number ≡ 0
      → OnlyRead (read_given image ds h.id h.position (length buffer)) h buffer
  pub tree : (buffer : Bytes) → (tree_answer (attempt_tree image ds)).number ≡ 0 → OnlyTree (attempt_tree image ds) buffer
  -- one new record, below the directory d
  pub create : (base path : Bytes) (kind : ℕ) → (create_of image ds base path kind).number ≡ 0
      → (d : ℕ) × (lookup_names by_bytes (volume image ds) (names_before (path_names base path)) ≡ found d)
      × OnlyOne image (image_created image ds base path kind) ds (new_inode (volume image ds) kind d (last_name (path_names base path)))
  -- the pieces, for the file f
  pub append : (base path text : Bytes) → append_of image ds base path text ≡ 0
      → (f : ℕ) × (resolve image ds base path ≡ found f)
      × OnlyStored image (image_appended image ds base path text) ds (new_blocks image ds f text)
  -- T-05: "each block that holds a byte of the written range is rewritten": the new versions, of blocks of the file f
  pub overwrite : (base path : Bytes) (offset : ℕ) (text : Bytes) → overwrite_of image ds base path offset text ≡ 0
      → (f : ℕ) × (resolve image ds base path ≡ found f)
      × OnlyStored image (image_overwritten image ds base path offset text) ds (new_versions image ds f offset text)
  -- "a deletion record", of the inode i
  pub unlink : (base path : Bytes) → unlink_of image ds base path ≡ 0
      → (i : ℕ) × (resolve image ds base path ≡ found i) × OnlyOne image (image_unlinked image ds base path) ds (deletion (volume image ds) i)
  -- T-01: "the inode is rewritten with .. the new parent and name; it goes where any new record goes": the inode i, below the directory d
  pub rename : (base old new : Bytes) → rename_of image ds base old new ≡ 0
      → (i d : ℕ) × (resolve image ds base old ≡ found i)
      × (lookup_names by_bytes (volume image ds) (names_before (path_names base new)) ≡ found d)
      × OnlyOne image (image_renamed image ds base old new) ds (rewritten (volume image ds) i d (last_name (path_names base new)))
  -- scratch and the source area
  pub collect : collect_of image ds ≡ 0
      → (scratch source : Descriptor) × (scratch_areas image ds ≡ scratch ∷ []) × (source_of image (file_areas image ds) scratch ≡ some source)
      × ChangedOnly (λ i. InArea scratch i ⊎ InArea source i) image (image_collected image ds)

-- Demand 1, of any image and any area list, one that the end mark has cut (`listed`)
pub record Demand1 (image : Bytes) (ds : List Descriptor) : Type 0 where
  pub numbers : Numbers image ds
  pub exactly : Exactly image ds
  pub refused : RefusedCalls image ds
  pub accepted : AcceptedCalls image ds
