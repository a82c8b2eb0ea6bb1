-- Every call takes a list cut to one entry more than is good as it takes the whole list: it is the same list, or both are badly described.
use Rattle.std.specs.Prelude.{ℕ, zero, suc, ◌≤◌, ◌<◌, ◌≡◌, refl, List, [], ◌∷◌, Bool, true, false, length, take, leb}
use Rattle.std.proofs.Common.{sym, ap, ◌∙◌, arith, length-take, leb-true, leb-false}
use Rattle.format.specs.Bytes.{Bytes}
use Rattle.volume.specs.Tree.{absent}
use Rattle.calls.specs.Refusal.{first_refusal}
use Rattle.calls.specs.Mount.{bad_description, mount_checks, mount_number}
use Rattle.calls.specs.Format.{format_number, image_formatted}
use Rattle.calls.specs.Report.{report_of, refused_report}
use Rattle.calls.specs.AreaReport.{refused_area_report, area_report_number, area_report_of}
use Rattle.calls.specs.Lookup.{resolve, lookup_of, lookup_answer, open_of, open_answer}
use Rattle.calls.specs.Read.{read_given, refused}
use Rattle.calls.specs.Attempt.{refuses, attempt_at}
use Rattle.calls.specs.Tree.{attempt_tree}
use Rattle.calls.specs.Create.{creating, create_of, image_created}
use Rattle.calls.specs.Append.{appending, append_of, image_appended}
use Rattle.calls.specs.Unlink.{unlinking, unlink_of, image_unlinked}
use Rattle.calls.specs.Overwrite.{overwriting, overwrite_of, image_overwritten}
use Rattle.calls.specs.Rename.{renaming, rename_of, image_renamed}
use Rattle.calls.specs.Collect.{collecting, collect_of, image_collected}
use Rattle.calls.specs.declared.Descriptor.{Descriptor}
use Rattle.area_list.specs.Description.{bad_many}
use Rattle.area_structs.specs.Entries.{most_entries}

uncut : (n : ℕ) (ds : List Descriptor) → length ds ≤ n → take n ds ≡ ds
uncut zero [] h = refl
uncut zero (d ∷ ds) h = absurd (omega arith)
uncut (suc n) [] h = refl
uncut (suc n) (d ∷ ds) h = ap (λ (l : List Descriptor). d ∷ l) (uncut n ds (omega arith))

-- what is the same, x, for every badly described list
whole : {X : Type 0} (image : Bytes) (F : List Descriptor → X) (x : X) → ((l : List Descriptor) → bad_description image l ≡ true → F l ≡ x)
    → (ds : List Descriptor) → F (take most_entries ds) ≡ F ds
whole image F x bad ds = go (leb (length ds) most_entries) refl
  where
    go : (b : Bool) → leb (length ds) most_entries ≡ b → F (take most_entries ds) ≡ F ds
    go true e = ap F (uncut most_entries ds (leb-true (length ds) most_entries e))
    go false e =
        let more : most_entries < length ds = leb-false (length ds) most_entries e in
        bad (take most_entries ds) (bad_many image (take most_entries ds) (omega (arith, length-take most_entries ds))) ∙ sym (bad ds (bad_many image ds (omega arith)))

mount_bad : (image : Bytes) (l : List Descriptor) → bad_description image l ≡ true → mount_number image l ≡ 1
unfolding mount_number mount_checks first_refusal
mount_bad image l e = rw e

pub format_whole : (image : Bytes) (ds : List Descriptor) → format_number image (take most_entries ds) ≡ format_number image ds
unfolding format_number first_refusal
format_whole image = whole image (format_number image) 1 (λ l e. rw e)

pub formatted_whole : (image : Bytes) (ds : List Descriptor) → image_formatted image (take most_entries ds) ≡ image_formatted image ds
unfolding image_formatted format_number first_refusal
formatted_whole image = whole image (image_formatted image) image (λ l e. rw e)

pub report_whole : (image : Bytes) (ds : List Descriptor) → report_of image (take most_entries ds) ≡ report_of image ds
unfolding report_of
report_whole image = whole image (report_of image) (refused_report 1) (λ l e. rw (mount_bad image l e))

pub area_whole : (image : Bytes) (ds : List Descriptor) (i k : ℕ) → area_report_of image (take most_entries ds) i k ≡ area_report_of image ds i k
unfolding area_report_of area_report_number first_refusal
area_whole image ds i k = whole image (λ l. area_report_of image l i k) (refused_area_report 1) (λ l e. rw e) ds

pub lookup_whole : (image : Bytes) (ds : List Descriptor) (base path : Bytes) → lookup_of image (take most_entries ds) base path ≡ lookup_of image ds base path
unfolding lookup_of resolve
lookup_whole image ds base path = whole image (λ l. lookup_of image l base path) (lookup_answer (absent 1)) (λ l e. rw (mount_bad image l e)) ds

pub open_whole : (image : Bytes) (ds : List Descriptor) (base path : Bytes) → open_of image (take most_entries ds) base path ≡ open_of image ds base path
unfolding open_of resolve
open_whole image ds base path = whole image (λ l. open_of image l base path) (open_answer (absent 1)) (λ l e. rw (mount_bad image l e)) ds

pub read_whole : (image : Bytes) (ds : List Descriptor) (id position room : ℕ) → read_given image (take most_entries ds) id position room ≡ read_given image ds id position room
unfolding read_given
read_whole image ds id position room = whole image (λ l. read_given image l id position room) (refused 1) (λ l e. rw (mount_bad image l e)) ds

pub tree_whole : (image : Bytes) (ds : List Descriptor) → attempt_tree image (take most_entries ds) ≡ attempt_tree image ds
unfolding attempt_tree
tree_whole image ds = whole image (attempt_tree image) (refuses 1) (λ l e. rw (mount_bad image l e)) ds

pub create_whole : (image : Bytes) (ds : List Descriptor) (base path : Bytes) (kind : ℕ) → create_of image (take most_entries ds) base path kind ≡ create_of image ds base path kind
unfolding create_of creating attempt_at
create_whole image ds base path kind = whole image (λ l. create_of image l base path kind) (record { number = 1; id = 0 }) (λ l e. rw (mount_bad image l e)) ds

pub created_whole : (image : Bytes) (ds : List Descriptor) (base path : Bytes) (kind : ℕ) → image_created image (take most_entries ds) base path kind ≡ image_created image ds base path kind
unfolding image_created creating attempt_at
created_whole image ds base path kind = whole image (λ l. image_created image l base path kind) image (λ l e. rw (mount_bad image l e)) ds

pub append_whole : (image : Bytes) (ds : List Descriptor) (base path text : Bytes) → append_of image (take most_entries ds) base path text ≡ append_of image ds base path text
unfolding append_of appending attempt_at
append_whole image ds base path text = whole image (λ l. append_of image l base path text) 1 (λ l e. rw (mount_bad image l e)) ds

pub appended_whole : (image : Bytes) (ds : List Descriptor) (base path text : Bytes) → image_appended image (take most_entries ds) base path text ≡ image_appended image ds base path text
unfolding image_appended appending attempt_at
appended_whole image ds base path text = whole image (λ l. image_appended image l base path text) image (λ l e. rw (mount_bad image l e)) ds

pub unlink_whole : (image : Bytes) (ds : List Descriptor) (base path : Bytes) → unlink_of image (take most_entries ds) base path ≡ unlink_of image ds base path
unfolding unlink_of unlinking attempt_at
unlink_whole image ds base path = whole image (λ l. unlink_of image l base path) 1 (λ l e. rw (mount_bad image l e)) ds

pub unlinked_whole : (image : Bytes) (ds : List Descriptor) (base path : Bytes) → image_unlinked image (take most_entries ds) base path ≡ image_unlinked image ds base path
unfolding image_unlinked unlinking attempt_at
unlinked_whole image ds base path = whole image (λ l. image_unlinked image l base path) image (λ l e. rw (mount_bad image l e)) ds

pub overwrite_whole : (image : Bytes) (ds : List Descriptor) (base path : Bytes) (offset : ℕ) (text : Bytes)
    → overwrite_of image (take most_entries ds) base path offset text ≡ overwrite_of image ds base path offset text
unfolding overwrite_of overwriting attempt_at
overwrite_whole image ds base path offset text = whole image (λ l. overwrite_of image l base path offset text) 1 (λ l e. rw (mount_bad image l e)) ds

pub overwritten_whole : (image : Bytes) (ds : List Descriptor) (base path : Bytes) (offset : ℕ) (text : Bytes)
    → image_overwritten image (take most_entries ds) base path offset text ≡ image_overwritten image ds base path offset text
unfolding image_overwritten overwriting attempt_at
overwritten_whole image ds base path offset text = whole image (λ l. image_overwritten image l base path offset text) image (λ l e. rw (mount_bad image l e)) ds

pub rename_whole : (image : Bytes) (ds : List Descriptor) (base old new : Bytes) → rename_of image (take most_entries ds) base old new ≡ rename_of image ds base old new
unfolding rename_of renaming attempt_at
rename_whole image ds base old new = whole image (λ l. rename_of image l base old new) 1 (λ l e. rw (mount_bad image l e)) ds

pub renamed_whole : (image : Bytes) (ds : List Descriptor) (base old new : Bytes) → image_renamed image (take most_entries ds) base old new ≡ image_renamed image ds base old new
unfolding image_renamed renaming attempt_at
renamed_whole image ds base old new = whole image (λ l. image_renamed image l base old new) image (λ l e. rw (mount_bad image l e)) ds

pub collect_whole : (image : Bytes) (ds : List Descriptor) → collect_of image (take most_entries ds) ≡ collect_of image ds
unfolding collect_of collecting
collect_whole image = whole image (collect_of image) 1 (λ l e. rw (mount_bad image l e))

pub collected_whole : (image : Bytes) (ds : List Descriptor) → image_collected image (take most_entries ds) ≡ image_collected image ds
unfolding image_collected collecting
collected_whole image = whole image (image_collected image) image (λ l e. rw (mount_bad image l e))
