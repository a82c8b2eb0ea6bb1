-- Unlink. Document 01, "Create, append, unlink" and refusals 8 to 11, 16 and 15.
use Rattle.std.specs.Prelude.{ℕ, List, [], not, ◌||◌}
use Rattle.format.specs.Bytes.{Bytes}
use Rattle.format.specs.Ids.{NONE}
use Rattle.volume.specs.View.{by_bytes}
use Rattle.volume.specs.Counting.{Volume}
use Rattle.volume.specs.Path.{good_path, path_names}
use Rattle.volume.specs.Tree.{lookup_names}
use Rattle.calls.specs.Mount.{volume, mount_number}
use Rattle.calls.specs.Attempt.{Attempt, number_of, leaves, attempt_at}
use Rattle.calls.specs.Rewrite.{rewritten, rewrite_number, image_rewritten}
use Rattle.calls.specs.Create.{is_root}
use Rattle.calls.specs.declared.Descriptor.{Descriptor}

-- "a deletion record, sequence plus one, no name": the inode rewritten with no parent and no name
unfoldable pub deletion : Volume Bytes → ℕ → Bytes
deletion v i = rewritten v i NONE []

unfoldable pub unlink_one : Bytes → List Descriptor → ℕ → ℕ
unlink_one image ds i = rewrite_number image ds i NONE []

-- an unlink goes with its inode; 8 is "bad path or name; .. creating or unlinking the root"
unfoldable pub unlinking : Bytes → List Descriptor → Bytes → Bytes → Attempt ℕ
unlinking image ds base path =
    let ns = path_names base path in
    attempt_at (mount_number image ds) (not (good_path base path) || is_root ns) (lookup_names by_bytes (volume image ds) ns) (unlink_one image ds)

unfoldable pub unlink_of : Bytes → List Descriptor → Bytes → Bytes → ℕ
unlink_of image ds base path = number_of (unlinking image ds base path)

unfoldable pub image_unlinked : Bytes → List Descriptor → Bytes → Bytes → Bytes
image_unlinked image ds base path = leaves image (λ i. image_rewritten image ds i NONE []) (unlinking image ds base path)
