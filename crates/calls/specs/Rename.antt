-- Rename and move. Document 02, T-01: refusals 8 to 12, 18, 16 and 15.
use Rattle.std.specs.Prelude.{ℕ, List, ◌∷◌, ◌++◌, Bool, not, ◌||◌, eqb}
use Rattle.format.specs.Bytes.{Bytes}
use Rattle.format.specs.Ids.{root_id}
use Rattle.volume.specs.View.{by_bytes}
use Rattle.volume.specs.Counting.{Volume}
use Rattle.volume.specs.Fate.{lineage}
use Rattle.volume.specs.Path.{good_path, path_names}
use Rattle.volume.specs.Tree.{lookup_names}
use Rattle.calls.specs.Refusal.{◌refused_by◌, first_refusal}
use Rattle.calls.specs.Mount.{volume, mount_number}
use Rattle.calls.specs.Storing.{is_among}
use Rattle.calls.specs.Attempt.{Attempt, number_of, leaves, at_found, attempt_at}
use Rattle.calls.specs.Create.{is_root, last_name, names_before, name_checks}
use Rattle.calls.specs.Rewrite.{rewrite_checks, image_rewritten}
use Rattle.calls.specs.declared.Descriptor.{Descriptor}

-- T-01: "Moving a directory below itself, or the root": the directory d is the inode i, or i is one of its ancestors
unfoldable pub moves_into_itself : Volume Bytes → ℕ → ℕ → Bool
moves_into_itself v i d = eqb i root_id || is_among i (lineage by_bytes v d)

-- the inode i moved to the name n below the inode d: "the new name being there is 12, and the new parent being a file is 11";
-- 18 is "checked after 12"; then 16 and 15, of the inode rewritten
unfoldable pub move_number : Bytes → List Descriptor → ℕ → ℕ → Bytes → ℕ
move_number image ds i d n =
    let v = volume image ds in
    first_refusal (name_checks v d n ++ ((moves_into_itself v i d refused_by 18) ∷ rewrite_checks image ds i d n))

-- the new path, of the names ns, is walked as a create walks it; the move goes with the directory above
unfoldable pub moving : Bytes → List Descriptor → List Bytes → ℕ → Attempt ℕ
moving image ds ns i =
    at_found (λ d. move_number image ds i d (last_name ns)) (lookup_names by_bytes (volume image ds) (names_before ns))

-- 8 of either path, "A new path '/' is 8"; "The old path is walked first"; a rename goes with its inode
unfoldable pub renaming : Bytes → List Descriptor → Bytes → Bytes → Bytes → Attempt ℕ
renaming image ds base old new =
    let ns = path_names base new in
    attempt_at (mount_number image ds) (not (good_path base old) || not (good_path base new) || is_root ns)
    (lookup_names by_bytes (volume image ds) (path_names base old)) (λ i. number_of (moving image ds ns i))

unfoldable pub rename_of : Bytes → List Descriptor → Bytes → Bytes → Bytes → ℕ
rename_of image ds base old new = number_of (renaming image ds base old new)

-- "the inode is rewritten with the same id, sequence plus one, and the new parent and name; it goes where any new record goes"
abbrev pub rename_image : Bytes → List Descriptor → List Bytes → ℕ → Bytes
rename_image image ds ns i = leaves image (λ d. image_rewritten image ds i d (last_name ns)) (moving image ds ns i)

unfoldable pub image_renamed : Bytes → List Descriptor → Bytes → Bytes → Bytes → Bytes
image_renamed image ds base old new = leaves image (rename_image image ds (path_names base new)) (renaming image ds base old new)
