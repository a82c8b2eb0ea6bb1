-- Append. Document 01, "Create, append, unlink" and refusals 8 to 11, 13, 5 and 15.
use Rattle.std.specs.Prelude.{ℕ, zero, suc, min, ◌+◌, List, [], ◌∷◌, ◌++◌, Bool, true, false, not, ◌||◌, length, take, drop, ltb}
use Rattle.std.proofs.Math.Option.{Option, none, some}
use Rattle.format.specs.Bytes.{Bytes}
use Rattle.format.specs.Ids.{NONE, first_block_id, is_directory_id}
use Rattle.format.specs.BlockSize.{greatest_block}
use Rattle.format.specs.Encoding.{block_bytes}
use Rattle.volume.specs.View.{by_bytes}
use Rattle.volume.specs.Counting.{Volume, block_ids}
use Rattle.volume.specs.Contents.{last_block, file_blocks}
use Rattle.volume.specs.Path.{good_path, path_names}
use Rattle.volume.specs.Tree.{lookup_names}
use Rattle.calls.specs.Refusal.{Check, ◌refused_by◌, first_refusal}
use Rattle.calls.specs.Areas.{file_areas}
use Rattle.calls.specs.Mount.{most_blocks, volume, mount_number}
use Rattle.calls.specs.Storing.{spaces, place_all, no_place, stored_or, named_ids, unused_id}
use Rattle.calls.specs.Attempt.{Attempt, number_of, leaves, attempt_at}
use Rattle.calls.specs.declared.Descriptor.{Descriptor}

-- "over 8,192 bytes to append" is 8, and to overwrite by T-05
abbrev pub most_appended : ℕ
most_appended = 8192

unfoldable pub shortest_length : List Descriptor → ℕ
shortest_length [] = 0
shortest_length (d ∷ []) = d.length
shortest_length (d ∷ e ∷ fs) = min d.length (shortest_length (e ∷ fs))

-- "cuts the data into pieces of the greatest block size, the last one shorter": at most k pieces of n bytes
unfoldable pub cut_into : ℕ → ℕ → Bytes → List Bytes
cut_into zero n text = []
cut_into (suc k) n [] = []
cut_into (suc k) n (b ∷ l) = take n (b ∷ l) ∷ cut_into k n (drop n (b ∷ l))

unfoldable pub pieces_of : List Descriptor → Bytes → List Bytes
pieces_of fs text = cut_into (length text) (greatest_block (shortest_length fs)) text

-- the records of the pieces for the file f, "each naming the one before"; each takes the smallest block id that is not yet named
unfoldable pub block_records : List ℕ → ℕ → ℕ → List Bytes → List Bytes
block_records names f previous [] = []
block_records names f previous (p ∷ ps) =
    let i = unused_id first_block_id names in
    block_bytes i 0 f previous p ∷ block_records (i ∷ names) f i ps

-- the block that the first piece names: the file's last one, NONE where it is empty
abbrev pub or_none : Option ℕ → ℕ
or_none none = NONE
or_none (some i) = i

unfoldable pub new_blocks : Bytes → List Descriptor → ℕ → Bytes → List Bytes
new_blocks image ds f text =
    let v = volume image ds in
    block_records (named_ids v) f (or_none (last_block by_bytes v f)) (pieces_of (file_areas image ds) text)

abbrev pub is_broken : Option (List Bytes) → Bool
is_broken none = true
is_broken (some bs) = false

-- what a path led to: 11 for a directory, 13 for a broken file
abbrev pub file_checks : Volume Bytes → ℕ → List Check
file_checks v f = (is_directory_id f refused_by 11) ∷ (is_broken (file_blocks by_bytes v f) refused_by 13) ∷ []

-- these, then 5 again with the new blocks counted in, then 15
unfoldable pub append_to : Bytes → List Descriptor → ℕ → Bytes → ℕ
append_to image ds f text =
    let v = volume image ds in
    let bs = new_blocks image ds f text in
    first_refusal
    (file_checks v f
    ++ ((ltb most_blocks (length (block_ids by_bytes v) + length bs) refused_by 5)
    ∷ (no_place (place_all (spaces image (file_areas image ds)) bs) refused_by 15)
    ∷ []))

-- a text for what a path leads to; 8 is "bad path or name; over 8,192 bytes to append"
abbrev pub attempt_text : Bytes → List Descriptor → Bytes → Bytes → Bytes → (ℕ → ℕ) → Attempt ℕ
attempt_text image ds base path text checks =
    attempt_at (mount_number image ds) (not (good_path base path) || ltb most_appended (length text))
    (lookup_names by_bytes (volume image ds) (path_names base path)) checks

-- an append goes with its file
unfoldable pub appending : Bytes → List Descriptor → Bytes → Bytes → Bytes → Attempt ℕ
appending image ds base path text = attempt_text image ds base path text (λ f. append_to image ds f text)

unfoldable pub append_of : Bytes → List Descriptor → Bytes → Bytes → Bytes → ℕ
append_of image ds base path text = number_of (appending image ds base path text)

-- the image with the pieces for the file f: "all pieces or none; 0 bytes write nothing"
abbrev pub append_image : Bytes → List Descriptor → Bytes → ℕ → Bytes
append_image image ds text f = stored_or image (place_all (spaces image (file_areas image ds)) (new_blocks image ds f text))

unfoldable pub image_appended : Bytes → List Descriptor → Bytes → Bytes → Bytes → Bytes
image_appended image ds base path text = leaves image (append_image image ds text) (appending image ds base path text)
