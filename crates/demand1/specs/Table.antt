-- The table of document 01, "Numbers of refusal, in order of check", in its words: for each call the rows that it asks, in order. Document 02
-- amends it: T-01 adds rename and the number 18, T-05 adds overwrite, T-07 the tree.
use Rattle.std.specs.Prelude.{ℕ, suc, ◌+◌, ◌≤◌, ◌<◌, ◌≡◌, ◌⊎◌, ◌≢◌, true, false, length}
use Rattle.std.proofs.Math.Option.{none, some}
use mathlib.Core.List.{List, [], ◌∷◌, ◌++◌, map, Memᴰ}
use Rattle.format.specs.Bytes.{Bytes}
use Rattle.format.specs.Ids.{root_id, is_directory_id}
use Rattle.format.specs.AreaHeader.{area_id}
use Rattle.format.specs.Record.{record_size, record_id, record_sequence, record_link, block_previous}
use Rattle.format.specs.Encoding.{block_bytes}
use Rattle.format.specs.Reading.{area_clean}
use Rattle.volume.specs.View.{by_bytes}
use Rattle.volume.specs.Counting.{Volume, inode_of, inode_ids, block_ids}
use Rattle.volume.specs.Fate.{live, fate_of, lineage}
use Rattle.volume.specs.Contents.{file_blocks, text_of}
use Rattle.volume.specs.Path.{SLASH, longest_name, longest_path, path_names}
use Rattle.volume.specs.Tree.{Found, found, absent, lookup_names}
use Rattle.calls.specs.Image.{put, part}
use Rattle.calls.specs.Areas.{most_areas, shortest_area, largest_image, area_end, area_bytes, file_areas, scratch_areas}
use Rattle.calls.specs.Mount.{most_inodes, most_blocks, accepted_records, volume}
use Rattle.calls.specs.Storing.{Space, Fit, spaces, first_fit}
use Rattle.calls.specs.Create.{last_name, names_before, new_inode, create_of}
use Rattle.calls.specs.Append.{most_appended, new_blocks, append_of}
use Rattle.calls.specs.Rewrite.{last_sequence, sequence_of, rewritten}
use Rattle.calls.specs.Unlink.{deletion, unlink_of}
use Rattle.calls.specs.Rename.{rename_of}
use Rattle.calls.specs.Overwrite.{changes, new_version, old_blocks, overwrite_of}
use Rattle.calls.specs.Format.{format_number}
use Rattle.calls.specs.Report.{report_of}
use Rattle.calls.specs.AreaReport.{area_report_of}
use Rattle.calls.specs.Lookup.{lookup_of, open_of}
use Rattle.calls.specs.Read.{read_given, read_answer}
use Rattle.calls.specs.Collect.{collect_of}
use Rattle.calls.specs.Tree.{attempt_tree, tree_answer}
use Rattle.calls.specs.declared.Descriptor.{Descriptor}
use Rattle.calls_laws.specs.Checks.{InArea}
use Rattle.demand2.specs.Store.{free_place}
use Rattle.demand2_overwrite.specs.Blocks.{held, HoldsByte}

-- a row: a number, and when it is given
pub record Row : Type 1 where
  pub number : ℕ
  pub holds : Type 0

infix 4 ◌given_when◌
abbrev pub ◌given_when◌ : ℕ → Type 0 → Row
◌given_when◌ n w = record { number = n; holds = w }

-- "Given exactly when", "in order of check": n is the number of the first row that holds, and 0 where none does
unfoldable pub Answers : List Row → ℕ → Type 0
Answers [] n = n ≡ 0
Answers (r ∷ rs) n = (r.holds × (n ≡ r.number)) ⊎ ((¬ r.holds) × Answers rs n)

-- ---- 1 to 7

-- "no two overlapping": no byte is in two of them
abbrev pub NoOverlap : List Descriptor → Type 0
NoOverlap [] = Unit {0}
NoOverlap (d ∷ l) = ((e : Descriptor) → Memᴰ e l → (i : ℕ) → InArea d i → ¬ InArea e i) × NoOverlap l

-- Good: 1 to 16 entries (T-06: "descriptors to 16"), "each length 128 to 65,536, each wholly inside the image, no two overlapping"
pub record GoodList (size : ℕ) (ds : List Descriptor) : Type 0 where
  pub entries : (1 ≤ length ds) × (length ds ≤ most_areas)
  pub each : (d : Descriptor) → Memᴰ d ds → (shortest_area ≤ d.length) × (d.length ≤ largest_image) × (area_end d ≤ size)
  pub apart : NoOverlap ds

-- "1: image over 65,536 bytes or descriptors not good"
abbrev pub list_row : Bytes → List Descriptor → Row
list_row image ds = 1 given_when ((largest_image < length image) ⊎ (¬ GoodList (length image) ds))

abbrev pub mount_rows : Bytes → List Descriptor → List Row
mount_rows image ds =
    list_row image ds
    -- "two file areas have one id"
    ∷ (2 given_when ((d e : Descriptor) × Memᴰ d (file_areas image ds) × Memᴰ e (file_areas image ds) × (d ≢ e)
    × (area_id (area_bytes image d) ≡ area_id (area_bytes image e))))
    -- "no file area, or not exactly one scratch area"
    ∷ (3 given_when ((length (file_areas image ds) ≡ 0) ⊎ (length (scratch_areas image ds) ≢ 1)))
    -- "scratch shorter than a file area"
    ∷ (4 given_when ((s f : Descriptor) × Memᴰ s (scratch_areas image ds) × Memᴰ f (file_areas image ds) × (s.length < f.length)))
    -- more than 256 inode ids or 1,024 block ids (T-06) "in accepted records"
    ∷ (5 given_when ((most_inodes < length (inode_ids by_bytes (volume image ds))) ⊎ (most_blocks < length (block_ids by_bytes (volume image ds)))))
    -- "two records of one id, same sequence, different bytes"
    ∷ (6 given_when ((r s : Bytes) × Memᴰ r (accepted_records image ds) × Memᴰ s (accepted_records image ds) × (record_id r ≡ record_id s)
    × (record_sequence r ≡ record_sequence s) × (r ≢ s)))
    -- "no record of id 0"
    ∷ (7 given_when ((r : Bytes) → Memᴰ r (volume image ds).inodes → record_id r ≢ root_id))
    ∷ []

-- ---- 8: bad paths

-- names "parted by single slashes, none at the end"
unfoldable pub parted : List Bytes → Bytes
parted [] = []
parted (n ∷ []) = n
parted (n ∷ m ∷ ns) = n ++ (SLASH ∷ parted (m ∷ ns))

-- "names of 1 to 255 bytes, .. no NUL"; a slash parts two
pub record IsName (n : Bytes) : Type 0 where
  pub size : (1 ≤ length n) × (length n ≤ longest_name)
  pub no_slash : ¬ Memᴰ SLASH n
  pub no_nul : ¬ Memᴰ 0 n

-- an absolute path of these names: "'/' is the root. Otherwise names .."; "1 to 1,024 bytes"
pub record Absolute (p : Bytes) (ns : List Bytes) : Type 0 where
  pub short : length p ≤ longest_path
  pub spelt : p ≡ SLASH ∷ parted ns
  pub named : (n : Bytes) → Memᴰ n ns → IsName n

-- and one "without a leading slash"
pub record Relative (p : Bytes) (ns : List Bytes) : Type 0 where
  pub short : length p ≤ longest_path
  pub spelt : p ≡ parted ns
  pub some_name : ns ≢ []
  pub named : (n : Bytes) → Memᴰ n ns → IsName n

-- a good path of these names: "A path without a leading slash is taken below a base path lent beside it, which must then be a good absolute path;
-- else the base isn't looked at"
abbrev pub Named : Bytes → Bytes → List Bytes → Type 0
Named base p ns = Absolute p ns ⊎ ((bs rs : List Bytes) × Absolute base bs × Relative p rs × (ns ≡ bs ++ rs))

-- "8: bad path or name"
abbrev pub BadPath : Bytes → Bytes → Type 0
BadPath base p = ¬ ((ns : List Bytes) × Named base p ns)

-- ---- 9 to 11: a walk

-- a walk along names fails at a name that is looked for in an inode, to which the names before it lead
pub record FailsAt (v : Volume Bytes) (ns : List Bytes) (why : ℕ → Bytes → Type 0) : Type 0 where
  pub before : List Bytes
  pub name : Bytes
  pub behind : List Bytes
  pub split : ns ≡ before ++ (name ∷ behind)
  pub inode : ℕ
  pub led : lookup_names by_bytes v before ≡ found inode
  pub fails : why inode name

-- i is a live child of d, of the name n
pub record LiveChild (v : Volume Bytes) (d : ℕ) (n : Bytes) (i : ℕ) : Type 0 where
  pub counted : Bytes
  pub counts : inode_of by_bytes v i ≡ some counted
  pub parent_is : by_bytes.parent counted ≡ d
  pub name_is : by_bytes.name counted ≡ n
  pub lives : fate_of by_bytes v i ≡ live

-- "no such child"
abbrev pub NoChild : Volume Bytes → ℕ → Bytes → Type 0
NoChild v d n = (is_directory_id d ≡ true) × ((i : ℕ) → ¬ LiveChild v d n i)

-- "two or more live children of that name"
abbrev pub TwoChildren : Volume Bytes → ℕ → Bytes → Type 0
TwoChildren v d n = (is_directory_id d ≡ true) × ((i j : ℕ) × (i ≢ j) × LiveChild v d n i × LiveChild v d n j)

-- "a name asked for below a file is 11, not 9"
abbrev pub NoDirectory : ℕ → Bytes → Type 0
NoDirectory d n = is_directory_id d ≡ false

-- "Where a path is walked, the first failing step decides among 9, 10 and 11": a walk has no more than one such step
abbrev pub walk_rows : Volume Bytes → List Bytes → List Row
walk_rows v ns =
    (9 given_when FailsAt v ns (NoChild v)) ∷ (10 given_when FailsAt v ns (TwoChildren v)) ∷ (11 given_when FailsAt v ns NoDirectory) ∷ []

-- a call at a path: 1 to 7, then 8, then the walk, and then the rows of the call
abbrev pub path_rows : Bytes → List Descriptor → Type 0 → List Bytes → List Row → List Row
path_rows image ds bad ns rest = mount_rows image ds ++ ((8 given_when bad) ∷ (walk_rows (volume image ds) ns ++ rest))

-- the walk leads to an inode of which p holds
abbrev pub Leads : Found → (ℕ → Type 0) → Type 0
Leads (found i) p = p i
Leads (absent r) p = ⊥

-- "15: a record fits in no clean file area"
abbrev pub NoRoom : Bytes → List Descriptor → Bytes → Type 0
NoRoom image ds b = (d : Descriptor) → Memᴰ d (file_areas image ds) → area_clean record_size (area_bytes image d) ≡ true
    → area_end d < free_place image d + length b

-- and of several, placed one after the other: one for which no free space that is left has room, where those before it took theirs
unfoldable pub NoRoomLeft : List Space → List Bytes → Type 0
NoRoomLeft ss [] = ⊥
NoRoomLeft ss (b ∷ bs) = ((s : Space) → Memᴰ s ss → s.end < s.from + length b)
    ⊎ ((f : Fit) × (first_fit (length b) ss ≡ some f) × NoRoomLeft f.left bs)

-- ---- the calls

-- "checks 1, then 3 if fewer than two entries"
abbrev pub format_rows : Bytes → List Descriptor → List Row
format_rows image ds = list_row image ds ∷ (3 given_when (length ds < 2)) ∷ []

-- check 1, and 1 where the list has no area i
abbrev pub area_report_rows : Bytes → List Descriptor → ℕ → List Row
area_report_rows image ds i = list_row image ds ∷ (1 given_when (length ds ≤ i)) ∷ []

abbrev pub lookup_rows : Bytes → List Descriptor → Bytes → Bytes → List Row
lookup_rows image ds base path = path_rows image ds (BadPath base path) (path_names base path) []

-- "open .. of a directory [is] 11"
abbrev pub open_rows : Bytes → List Descriptor → Bytes → Bytes → List Row
open_rows image ds base path =
    path_rows image ds (BadPath base path) (path_names base path)
    ((11 given_when Leads (lookup_names by_bytes (volume image ds) (path_names base path)) (λ i. is_directory_id i ≡ true)) ∷ [])

-- "13: read or append of a broken file"
abbrev pub broken_row : Volume Bytes → ℕ → Row
broken_row v f = 13 given_when (file_blocks by_bytes v f ≡ none)

-- "14: read begins after the end"
abbrev pub end_row : Volume Bytes → ℕ → ℕ → Row
end_row v f position = 14 given_when ((bs : List Bytes) × (file_blocks by_bytes v f ≡ some bs) × (length (text_of by_bytes bs) < position))

-- "a handle's id isn't live", "a file where a directory is needed, or the reverse"
abbrev pub read_rows : Bytes → List Descriptor → ℕ → ℕ → List Row
read_rows image ds id position =
    let v = volume image ds in
    mount_rows image ds
    ++ ((9 given_when (fate_of by_bytes v id ≢ live)) ∷ (11 given_when (is_directory_id id ≡ true)) ∷ broken_row v id ∷ end_row v id position ∷ [])

-- a new name below where a walk leads: 11 where that is a file; "for that name, in a directory, only 12 is asked"
abbrev pub name_rows : Volume Bytes → Found → Bytes → List Row
name_rows v above n =
    (11 given_when Leads above (λ d. is_directory_id d ≡ false)) ∷ (12 given_when Leads above (λ d. (i : ℕ) × LiveChild v d n i)) ∷ []

-- "creating .. the root" is 8; "create walks all but the last name"; 5 again "with the new records counted in", before 15
abbrev pub create_rows : Bytes → List Descriptor → Bytes → Bytes → ℕ → List Row
create_rows image ds base path kind =
    let v = volume image ds in
    let ns = path_names base path in
    let o = lookup_names by_bytes v (names_before ns) in
    path_rows image ds (BadPath base path ⊎ (ns ≡ [])) (names_before ns)
    (name_rows v o (last_name ns)
    ++ ((5 given_when (most_inodes < suc (length (inode_ids by_bytes v))))
    ∷ (15 given_when Leads o (λ d. NoRoom image ds (new_inode v kind d (last_name ns))))
    ∷ []))

-- a text for what a path leads to: "over 8,192 bytes to append" is 8; "append of a directory" is 11; 13 is "append of a broken file"
abbrev pub text_rows : Bytes → List Descriptor → Bytes → Bytes → Bytes → List Row → List Row
text_rows image ds base path text rest =
    let v = volume image ds in
    let o = lookup_names by_bytes v (path_names base path) in
    path_rows image ds (BadPath base path ⊎ (most_appended < length text)) (path_names base path)
    ((11 given_when Leads o (λ f. is_directory_id f ≡ true)) ∷ (13 given_when Leads o (λ f. file_blocks by_bytes v f ≡ none)) ∷ rest)

-- 5 again "with the new records counted in", before 15; "all pieces or none"
abbrev pub append_rows : Bytes → List Descriptor → Bytes → Bytes → Bytes → List Row
append_rows image ds base path text =
    let v = volume image ds in
    let o = lookup_names by_bytes v (path_names base path) in
    text_rows image ds base path text
    ((5 given_when Leads o (λ f. most_blocks < length (block_ids by_bytes v) + length (new_blocks image ds f text)))
    ∷ (15 given_when Leads o (λ f. NoRoomLeft (spaces image (file_areas image ds)) (new_blocks image ds f text)))
    ∷ [])

-- T-05: b is one of a file's blocks bs "that holds a byte of the written range": n bytes are written at the offset
pub record Touched (bs : List Bytes) (offset n : ℕ) (b : Bytes) : Type 0 where
  pub before : List Bytes
  pub behind : List Bytes
  pub split : bs ≡ before ++ (b ∷ behind)
  -- where the byte stands in the file
  pub place : ℕ
  pub written : (offset ≤ place) × (place < offset + n)
  pub held : (length (text_of by_bytes before) ≤ place) × (place < length (text_of by_bytes before) + length (by_bytes.text b))

-- T-05: "each block that holds a byte of the written range is rewritten": those of the file f, one after the other
abbrev pub new_versions : Bytes → List Descriptor → ℕ → ℕ → Bytes → List Bytes
new_versions image ds f offset text = map new_version (changes (old_blocks image ds f) offset text)

-- T-05: the records ws for a file's blocks, of which the first begins at s in a file that will hold `after`: "each block that holds a byte of the
-- written range is rewritten with the same id, owner, previous and length, sequence plus one, and its changed data", "in file order"
pub data NewRecords (from to : ℕ) (after : Bytes) : ℕ → List Bytes → List Bytes → Type 0 where
  no_more : {s : ℕ} → NewRecords from to after s [] []
  none_for : {s : ℕ} {b : Bytes} {bs ws : List Bytes} → ¬ HoldsByte from to s (held b) → NewRecords from to after (s + held b) bs ws
      → NewRecords from to after s (b ∷ bs) ws
  one_for : {s : ℕ} {b : Bytes} {bs ws : List Bytes} → HoldsByte from to s (held b) → NewRecords from to after (s + held b) bs ws
      → NewRecords from to after s (b ∷ bs)
      (block_bytes (record_id b) (suc (record_sequence b)) (record_link b) (block_previous b) (part after s (held b)) ∷ ws)

-- T-05, overwrite: it "is refused as append is, 13 too; an offset or an end past the size is 14; such a block at sequence ffffffff is 16"; "16 comes
-- before 15"; "all or none". Its records have no new ids: 5 isn't asked again
abbrev pub overwrite_rows : Bytes → List Descriptor → Bytes → Bytes → ℕ → Bytes → List Row
overwrite_rows image ds base path offset text =
    let v = volume image ds in
    let o = lookup_names by_bytes v (path_names base path) in
    text_rows image ds base path text
    ((14 given_when Leads o (λ f. (bs : List Bytes) × (file_blocks by_bytes v f ≡ some bs)
    × ((length (text_of by_bytes bs) < offset) ⊎ (length (text_of by_bytes bs) < offset + length text))))
    ∷ (16 given_when Leads o (λ f. (bs : List Bytes) × (file_blocks by_bytes v f ≡ some bs)
    × ((b : Bytes) × Touched bs offset (length text) b × (record_sequence b ≡ last_sequence))))
    ∷ (15 given_when Leads o (λ f. (bs ws : List Bytes) × (file_blocks by_bytes v f ≡ some bs)
    × NewRecords offset (offset + length text) (put (text_of by_bytes bs) offset text) 0 bs ws × NoRoomLeft (spaces image (file_areas image ds)) ws))
    ∷ [])

-- the inode to which a walk leads is rewritten: 16 where its "sequence is ffffffff", then 15; "16 comes before 15"
abbrev pub rewrite_rows : Volume Bytes → Found → (ℕ → Type 0) → List Row
rewrite_rows v o no_room =
    (16 given_when Leads o (λ i. sequence_of (inode_of by_bytes v i) ≡ last_sequence)) ∷ (15 given_when Leads o no_room) ∷ []

-- "unlinking the root" is 8
abbrev pub unlink_rows : Bytes → List Descriptor → Bytes → Bytes → List Row
unlink_rows image ds base path =
    let v = volume image ds in
    let o = lookup_names by_bytes v (path_names base path) in
    path_rows image ds (BadPath base path ⊎ (path_names base path ≡ [])) (path_names base path)
    (rewrite_rows v o (λ i. NoRoom image ds (deletion v i)))

-- T-01: "Moving a directory below itself, or the root": the inode is the root, or the directory above the new name or an ancestor of that one. (A
-- file is never among these: the parent that a record names is a directory.)
abbrev pub IntoItself : Volume Bytes → ℕ → ℕ → Type 0
IntoItself v i d = (i ≡ root_id) ⊎ Memᴰ i (lineage by_bytes v d)

-- T-01, rename: "Refusals 8 to 12, 15 and 16 apply". 8 of either path, and "A new path '/' is 8"; "The old path is walked first", then all but the
-- last name of the new one; "the new name being there is 12, and the new parent being a file is 11"; 18 is "checked after 12"
abbrev pub rename_rows : Bytes → List Descriptor → Bytes → Bytes → Bytes → List Row
rename_rows image ds base old new =
    let v = volume image ds in
    let ns = path_names base new in
    let o = lookup_names by_bytes v (path_names base old) in
    let above = lookup_names by_bytes v (names_before ns) in
    path_rows image ds ((BadPath base old ⊎ BadPath base new) ⊎ (ns ≡ [])) (path_names base old)
    (walk_rows v (names_before ns)
    ++ (name_rows v above (last_name ns)
    ++ ((18 given_when Leads o (λ i. Leads above (IntoItself v i)))
    ∷ rewrite_rows v o (λ i. Leads above (λ d. NoRoom image ds (rewritten v i d (last_name ns)))))))

-- "17: collect: no file area is as long as the scratch area"
abbrev pub source_row : List Descriptor → List Descriptor → Row
source_row fs ss = 17 given_when ((s f : Descriptor) → Memᴰ s ss → Memᴰ f fs → f.length ≢ s.length)

abbrev pub collect_rows : Bytes → List Descriptor → List Row
collect_rows image ds = mount_rows image ds ++ (source_row (file_areas image ds) (scratch_areas image ds) ∷ [])

-- "given exactly when that document says"; T-01: "from here on demands 1 and 2 read document 01, its numbers too, as these requests amend it"
pub record Exactly (image : Bytes) (ds : List Descriptor) : Type 0 where
  -- the names of a good path, for the walk, are those that it spells
  pub names : (base path : Bytes) (ns : List Bytes) → Named base path ns → path_names base path ≡ ns
  pub format : Answers (format_rows image ds) (format_number image ds)
  pub report : Answers (mount_rows image ds) (report_of image ds).number
  pub area_report_lem : (i k : ℕ) → Answers (area_report_rows image ds i) (area_report_of image ds i k).number
  pub lookup : (base path : Bytes) → Answers (lookup_rows image ds base path) (lookup_of image ds base path).number
  pub opened : (base path : Bytes) → Answers (open_rows image ds base path) (open_of image ds base path).number
  pub read : (id position room : ℕ) → Answers (read_rows image ds id position) (read_answer (read_given image ds id position room)).number
  pub create : (base path : Bytes) (kind : ℕ) → Answers (create_rows image ds base path kind) (create_of image ds base path kind).number
  pub append : (base path text : Bytes) → Answers (append_rows image ds base path text) (append_of image ds base path text)
  pub overwrite : (base path : Bytes) (offset : ℕ) (text : Bytes)
      → Answers (overwrite_rows image ds base path offset text) (overwrite_of image ds base path offset text)
  pub unlink : (base path : Bytes) → Answers (unlink_rows image ds base path) (unlink_of image ds base path)
  pub rename : (base old new : Bytes) → Answers (rename_rows image ds base old new) (rename_of image ds base old new)
  pub collect : Answers (collect_rows image ds) (collect_of image ds)
  -- T-07: as a report, checks 1 to 7 and no other
  pub tree : Answers (mount_rows image ds) (tree_answer (attempt_tree image ds)).number
