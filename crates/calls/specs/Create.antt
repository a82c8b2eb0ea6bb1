-- Create. Document 01, "Create, append, unlink" and refusals 8 to 12, 5 and 15.
use Rattle.std.specs.Prelude.{ℕ, suc, List, [], ◌∷◌, ◌++◌, Bool, cond, not, ◌||◌, length, eqb, ltb}
use Rattle.format.specs.Bytes.{Bytes}
use Rattle.format.specs.Ids.{first_file_id, root_id, is_directory_id}
use Rattle.format.specs.Encoding.{inode_bytes}
use Rattle.volume.specs.View.{by_bytes}
use Rattle.volume.specs.Counting.{Volume, inode_ids}
use Rattle.volume.specs.Path.{good_path, path_names}
use Rattle.volume.specs.Tree.{children, lookup_names}
use Rattle.calls.specs.Refusal.{Check, ◌refused_by◌, first_refusal}
use Rattle.calls.specs.Areas.{file_areas}
use Rattle.calls.specs.Mount.{most_inodes, volume, mount_number}
use Rattle.calls.specs.Storing.{spaces, place_all, no_place, stored_or, named_ids, unused_id}
use Rattle.calls.specs.Attempt.{Attempt, number_of, leaves, attempt_at}
use Rattle.calls.specs.declared.Descriptor.{Descriptor}
use Rattle.calls.specs.declared.Created.{Created}

-- the last name of a path, and those before it
unfoldable pub last_name : List Bytes → Bytes
last_name [] = []
last_name (n ∷ []) = n
last_name (n ∷ m ∷ ns) = last_name (m ∷ ns)

unfoldable pub names_before : List Bytes → List Bytes
names_before [] = []
names_before (n ∷ []) = []
names_before (n ∷ m ∷ ns) = n ∷ names_before (m ∷ ns)

-- a path that names the root has no last name; "creating or unlinking the root" is 8
abbrev pub is_root : List Bytes → Bool
is_root ns = eqb (length ns) 0

-- the first id of a kind: 0 is a directory, any other number a file
unfoldable pub first_id_of : ℕ → ℕ
first_id_of kind = cond (eqb kind 0) root_id first_file_id

-- "the smallest id of their range that no accepted record names"
unfoldable pub new_id : Volume Bytes → ℕ → ℕ
new_id v kind = unused_id (first_id_of kind) (named_ids v)

-- the record of a new inode, "sequence 0", below the directory d, of the name n
unfoldable pub new_inode : Volume Bytes → ℕ → ℕ → Bytes → Bytes
new_inode v kind d n = inode_bytes (new_id v kind) 0 d n

-- a new name below the inode d: 11 where d is a file; "for that name, in a directory, only 12 is asked"
abbrev pub name_checks : Volume Bytes → ℕ → Bytes → List Check
name_checks v d n = (not (is_directory_id d) refused_by 11) ∷ (ltb 0 (length (children by_bytes v d n)) refused_by 12) ∷ []

-- then 5 again "with the new records counted in", before 15
unfoldable pub create_in : Bytes → List Descriptor → ℕ → ℕ → Bytes → ℕ
create_in image ds kind d n =
    let v = volume image ds in
    first_refusal
    (name_checks v d n
    ++ ((ltb most_inodes (suc (length (inode_ids by_bytes v))) refused_by 5)
    ∷ (no_place (place_all (spaces image (file_areas image ds)) (new_inode v kind d n ∷ [])) refused_by 15)
    ∷ []))

-- a create goes with the directory above: "create walks all but the last name"
unfoldable pub creating : Bytes → List Descriptor → Bytes → Bytes → ℕ → Attempt ℕ
creating image ds base path kind =
    let ns = path_names base path in
    attempt_at (mount_number image ds) (not (good_path base path) || is_root ns) (lookup_names by_bytes (volume image ds) (names_before ns))
    (λ d. create_in image ds kind d (last_name ns))

-- "Create .. answers the new id"
abbrev pub create_answer : Volume Bytes → ℕ → Attempt ℕ → Created
create_answer v kind t = record { number = number_of t; id = leaves 0 (λ d. new_id v kind) t }

unfoldable pub create_of : Bytes → List Descriptor → Bytes → Bytes → ℕ → Created
create_of image ds base path kind = create_answer (volume image ds) kind (creating image ds base path kind)

-- the image with the record of a new inode below the directory d, of the name n
abbrev pub create_image : Bytes → List Descriptor → ℕ → Bytes → ℕ → Bytes
create_image image ds kind n d = stored_or image (place_all (spaces image (file_areas image ds)) (new_inode (volume image ds) kind d n ∷ []))

unfoldable pub image_created : Bytes → List Descriptor → Bytes → Bytes → ℕ → Bytes
image_created image ds base path kind =
    leaves image (create_image image ds kind (last_name (path_names base path))) (creating image ds base path kind)
