-- The words of demand 3, and what it says. Document 01, "The words of demand 3".
use Rattle.std.specs.Prelude.{ℕ, ◌+◌, ◌≤◌, ◌<◌, ◌≡◌, ◌≢◌, Bool, true, false, cond, not, length, take, drop, leb}
use mathlib.Core.List.{List, [], ◌∷◌, ◌++◌, Memᴰ}
use Rattle.format.specs.Bytes.{Bytes, byte_at}
use Rattle.format.specs.Ids.{is_file_id}
use Rattle.format.specs.Record.{record_id, record_size}
use Rattle.format.specs.Reading.{Placed, area_clean}
use Rattle.volume.specs.Lists.{keep, all, same}
use Rattle.volume.specs.View.{by_bytes}
use Rattle.volume.specs.Counting.{Volume, inode_of}
use Rattle.volume.specs.Fate.{live, climb, longest_chain, fate_of, lineage, names_of}
use Rattle.volume.specs.Path.{good_path, path_names}
use Rattle.volume.specs.Tree.{found, absent, children}
use Rattle.volume.specs.Contents.{file_blocks}
use Rattle.calls.specs.Areas.{area_bytes, file_areas}
use Rattle.calls.specs.Mount.{records_of, volume, mount_number}
use Rattle.calls.specs.Lookup.{resolve, lookup_of, open_of}
use Rattle.calls.specs.Read.{Given, give, read_given, read_answer, buffer_after, handle_after}
use Rattle.calls.specs.declared.Descriptor.{Descriptor}
use Rattle.calls.specs.declared.Handle.{Handle}

-- "Its records are those taken in its file areas": r is one of them, in the area d
abbrev pub IsRecord : Bytes → List Descriptor → Descriptor → Placed → Type 0
IsRecord image ds d r = Memᴰ d (file_areas image ds) × Memᴰ r (records_of image d)

-- the byte at place j of an area is one of the record's
abbrev pub Within : Placed → ℕ → Type 0
Within r j = (r.place ≤ j) × (j < r.place + length r.bytes)

-- the byte at i of the image is one of the record's, "a record's place is its area and offset"
abbrev pub Inside : Descriptor → Placed → ℕ → Type 0
Inside d r i = (d.offset + r.place ≤ i) × (i < d.offset + r.place + length r.bytes)

-- it is a byte of one of the records
abbrev pub InRecord : Bytes → List Descriptor → ℕ → Type 0
InRecord image ds i = (d : Descriptor) × (r : Placed) × IsRecord image ds d r × Inside d r i

-- the bytes of an image where a record stands
abbrev pub bytes_at : Bytes → Descriptor → Placed → Bytes
bytes_at image d r = take (length r.bytes) (drop (d.offset + r.place) image)

-- "One is overwritten, or touched, when a byte of it differs" (exactly then: Touched.antt)
unfoldable pub touched : Bytes → Bytes → Descriptor → Placed → Bool
touched xs ys d r = not (same (bytes_at ys d r) (bytes_at xs d r))

-- What is given, of the images xs before and ys after, and of the area list ds, which `listed` has cut at its end:
-- "Take a file system that mounts and whose file areas are clean. Overwrite bytes inside its records .. and leave all others alone"
pub record Damage (xs ys : Bytes) (ds : List Descriptor) : Type 0 where
  -- "It compares two images of one length under one area list, before and after the damage"
  pub one_length : length ys ≡ length xs
  -- "A file system mounts when checks 1 to 7 pass"
  pub mounts : mount_number xs ds ≡ 0
  pub clean : (d : Descriptor) → Memᴰ d (file_areas xs ds) → area_clean record_size (area_bytes xs d) ≡ true
  -- "The images differ only inside such records"
  pub inside : (i : ℕ) → byte_at xs i ≢ byte_at ys i → InRecord xs ds i
  -- "No acceptable record starts at any of its bytes afterwards"
  pub no_new : (d : Descriptor) (r : Placed) → IsRecord xs ds d r → touched xs ys d r ≡ true
      → (j : ℕ) → Within r j → record_size (drop j (area_bytes ys d)) ≡ 0

-- "A version is any record of an id": none of the id's versions was touched
abbrev pub Spared : Bytes → Bytes → List Descriptor → ℕ → Type 0
Spared xs ys ds i = (d : Descriptor) (r : Placed) → IsRecord xs ds d r → record_id r.bytes ≡ i → touched xs ys d r ≡ false

-- A "live file .. if no record, of any version, was touched of itself, its ancestors or any block that some version gives to it"
pub record Unharmed (xs ys : Bytes) (ds : List Descriptor) (f : ℕ) : Type 0 where
  pub is_file_lem : is_file_id f ≡ true
  pub lives : fate_of by_bytes (volume xs ds) f ≡ live
  -- "Ancestors follow the counting records before the damage, up to the root"
  pub lineage_spared : (i : ℕ) → Memᴰ i (lineage by_bytes (volume xs ds) f) → Spared xs ys ds i
  -- "Each version of a block gives it to the owner named there"
  pub blocks_spared : (b : Bytes) → Memᴰ b (volume xs ds).blocks → by_bytes.owner b ≡ f → Spared xs ys ds (record_id b)

-- "each file area reads as exactly its untouched records, in order, at their old places"
pub record AreasKept (xs ys : Bytes) (ds : List Descriptor) : Type 0 where
  pub same_areas : file_areas ys ds ≡ file_areas xs ds
  pub reads : (d : Descriptor) → Memᴰ d (file_areas xs ds) → records_of ys d ≡ keep (λ r. not (touched xs ys d r)) (records_of xs d)

-- a name on a file's path, with the directory in which it is looked for
pub record Step : Type 0 where
  pub directory : ℕ
  pub name : Bytes

-- the steps of a path from the root to an inode: its names are "those of its ancestors below the root and then its own"
unfoldable pub steps_to : Volume Bytes → ℕ → List Step
steps_to v i =
    climb by_bytes (λ f. []) (λ r l. l ++ (record { directory = by_bytes.parent r; name = by_bytes.name r } ∷ []))
    (inode_of by_bytes v) (longest_chain by_bytes v) i

-- the name "belongs to two or more live children of the directory in which it is looked for"
unfoldable pub crowded : Volume Bytes → Step → Bool
crowded v s = leb 2 (length (children by_bytes v s.directory s.name))

-- "after the damage, a name on it" does
unfoldable pub ambiguous : Volume Bytes → Volume Bytes → ℕ → Bool
ambiguous before after f = not (all (λ s. not (crowded after s)) (steps_to before f))

-- "A file's path is any good path, absolute or below a good base, whose names (the base's first) are in order those of its
-- ancestors below the root and then its own"
pub record PathOf (v : Volume Bytes) (f : ℕ) (base p : Bytes) : Type 0 where
  pub good : good_path base p ≡ true
  pub named : path_names base p ≡ names_of by_bytes v f

-- "keeps its number, parent, name and contents, and each read of it answers alike before and after"
pub record FileKept (xs ys : Bytes) (ds : List Descriptor) (f : ℕ) : Type 0 where
  -- checks 1 to 7 pass after the damage too: the root is an ancestor of the file
  pub mounts : mount_number ys ds ≡ 0
  pub lives : fate_of by_bytes (volume ys ds) f ≡ live
  -- the same record counts, and so number, parent and name are the same
  pub inode : inode_of by_bytes (volume ys ds) f ≡ inode_of by_bytes (volume xs ds) f
  pub ancestors : lineage by_bytes (volume ys ds) f ≡ lineage by_bytes (volume xs ds) f
  pub names : names_of by_bytes (volume ys ds) f ≡ names_of by_bytes (volume xs ds) f
  -- the same blocks in order; "a broken file stays broken"
  pub contents : file_blocks by_bytes (volume ys ds) f ≡ file_blocks by_bytes (volume xs ds) f
  -- "for every handle with that id and every buffer": the read gives the same, or is refused alike
  pub reads : (position room : ℕ) → give (volume ys ds) f position room ≡ give (volume xs ds) f position room
  -- its path "is refused as ambiguous exactly when .. In every other case it finds that file, never another"
  pub path : (base p : Bytes) → PathOf (volume xs ds) f base p
      → resolve ys ds base p ≡ cond (ambiguous (volume xs ds) (volume ys ds) f) (absent 10) (found f)

-- a read by a handle into a buffer
abbrev pub read_by : Bytes → List Descriptor → Handle → Bytes → Given
read_by image ds h buffer = read_given image ds h.id h.position (length buffer)

-- What the calls answer for such a file after the damage
pub record CallsKept (xs ys : Bytes) (ds : List Descriptor) (f : ℕ) : Type 0 where
  -- "Reads are alike when, for every handle with that id and every buffer, the answer's number (0 or a refusal), the bytes given,
  -- the whole buffer, the handle and the header count come out equal"
  pub same_read_answer : (h : Handle) → h.id ≡ f → (buffer : Bytes) → read_answer (read_by ys ds h buffer) ≡ read_answer (read_by xs ds h buffer)
  pub read_buffer : (h : Handle) → h.id ≡ f → (buffer : Bytes)
      → buffer_after (read_by ys ds h buffer) buffer ≡ buffer_after (read_by xs ds h buffer) buffer
  pub read_handle : (h : Handle) → h.id ≡ f → (buffer : Bytes)
      → handle_after (read_by ys ds h buffer) h ≡ handle_after (read_by xs ds h buffer) h
  -- "Lookup and open of it answer 10 where it is refused as ambiguous, and otherwise give the file's id"
  pub lookup : (base p : Bytes) → PathOf (volume xs ds) f base p
      → lookup_of ys ds base p
      ≡ cond (ambiguous (volume xs ds) (volume ys ds) f)
      (record { number = 10; id = 0; kind = 0 })
      (record { number = 0; id = f; kind = 1 })
  pub opened : (base p : Bytes) → PathOf (volume xs ds) f base p
      → open_of ys ds base p
      ≡ cond (ambiguous (volume xs ds) (volume ys ds) f)
      (record { number = 10; id = 0; position = 0 })
      (record { number = 0; id = f; position = 0 })

-- Demand 3: what is read of the areas, of every such file, and what the calls answer for it
pub record Demand3 (xs ys : Bytes) (ds : List Descriptor) : Type 0 where
  pub areas : AreasKept xs ys ds
  pub files : (f : ℕ) → Unharmed xs ys ds f → FileKept xs ys ds f
  pub calls : (f : ℕ) → Unharmed xs ys ds f → CallsKept xs ys ds f
