-- Overwrite in the middle. Document 02, T-05: "refused as append is", then 14, 16 and 15.
use Rattle.std.specs.Prelude.{ℕ, suc, min, max, ◌+◌, List, [], ◌∷◌, ◌++◌, map, Bool, cond, length, ltb}
use Rattle.std.proofs.Math.Option.{Option, none, some}
use Rattle.format.specs.Bytes.{Bytes}
use Rattle.format.specs.Record.{record_id, record_sequence, record_link, block_previous}
use Rattle.format.specs.Encoding.{block_bytes}
use Rattle.volume.specs.View.{by_bytes}
use Rattle.volume.specs.Contents.{file_blocks, text_of}
use Rattle.calls.specs.Image.{put, part}
use Rattle.calls.specs.Refusal.{◌refused_by◌, first_refusal}
use Rattle.calls.specs.Areas.{file_areas}
use Rattle.calls.specs.Mount.{volume}
use Rattle.calls.specs.Storing.{Store, spaces, place_all, no_place, stored_or, is_among}
use Rattle.calls.specs.Attempt.{Attempt, number_of, leaves}
use Rattle.calls.specs.Append.{file_checks, attempt_text}
use Rattle.calls.specs.Rewrite.{last_sequence}
use Rattle.calls.specs.declared.Descriptor.{Descriptor}

-- a block of n bytes that begins at s in its file "holds a byte of the written range", which goes from `from` up to `to`
unfoldable pub holds_byte : ℕ → ℕ → ℕ → ℕ → Bool
holds_byte from to s n = ltb (max s from) (min (s + n) to)

-- a block, and the data that takes the place of its own
pub record Change : Type 0 where
  pub block : Bytes
  pub text : Bytes

-- "each block that holds a byte of the written range", "in file order", and "its changed data": its part of what the file will hold.
-- The first of the blocks begins at s in the file
unfoldable pub changes_from : ℕ → ℕ → Bytes → ℕ → List Bytes → List Change
changes_from from to after s [] = []
changes_from from to after s (b ∷ bs) =
    let n = length (by_bytes.text b) in
    let later = changes_from from to after (s + n) bs in
    cond (holds_byte from to s n) (record { block = b; text = part after s n } ∷ later) later

-- what a file of these blocks will hold: "The range then reads as the new data, every other byte as before"
abbrev pub text_after : List Bytes → ℕ → Bytes → Bytes
text_after bs offset text = put (text_of by_bytes bs) offset text

unfoldable pub changes : List Bytes → ℕ → Bytes → List Change
changes bs offset text = changes_from offset (offset + length text) (text_after bs offset text) 0 bs

-- "rewritten with the same id, owner, previous and length, sequence plus one, and its changed data"
unfoldable pub new_version : Change → Bytes
new_version c =
    let b = c.block in
    block_bytes (record_id b) (suc (record_sequence b)) (record_link b) (block_previous b) c.text

-- the blocks of a file; a broken one, which has none, is refused before they are asked for
abbrev pub blocks_in : Option (List Bytes) → List Bytes
blocks_in none = []
blocks_in (some bs) = bs

abbrev pub old_blocks : Bytes → List Descriptor → ℕ → List Bytes
old_blocks image ds f = blocks_in (file_blocks by_bytes (volume image ds) f)

-- where the new versions go: "all or none"
unfoldable pub overwrite_plan : Bytes → List Descriptor → ℕ → ℕ → Bytes → Option (List Store)
overwrite_plan image ds f offset text =
    place_all (spaces image (file_areas image ds)) (map new_version (changes (old_blocks image ds f) offset text))

-- what a path led to: 11, 13, then "an offset or an end past the size is 14", and an end is never before its offset;
-- "such a block at sequence ffffffff is 16"; then 15
unfoldable pub overwrite_to : Bytes → List Descriptor → ℕ → ℕ → Bytes → ℕ
overwrite_to image ds f offset text =
    let bs = old_blocks image ds f in
    first_refusal
    (file_checks (volume image ds) f
    ++ ((ltb (length (text_of by_bytes bs)) (offset + length text) refused_by 14)
    ∷ (is_among last_sequence (map (λ c. record_sequence c.block) (changes bs offset text)) refused_by 16)
    ∷ (no_place (overwrite_plan image ds f offset text) refused_by 15)
    ∷ []))

-- "It takes a path and is refused as append is"; an overwrite goes with its file
unfoldable pub overwriting : Bytes → List Descriptor → Bytes → Bytes → ℕ → Bytes → Attempt ℕ
overwriting image ds base path offset text = attempt_text image ds base path text (λ f. overwrite_to image ds f offset text)

unfoldable pub overwrite_of : Bytes → List Descriptor → Bytes → Bytes → ℕ → Bytes → ℕ
overwrite_of image ds base path offset text = number_of (overwriting image ds base path offset text)

-- the image with the new versions; "0 bytes write nothing"
abbrev pub overwrite_image : Bytes → List Descriptor → ℕ → Bytes → ℕ → Bytes
overwrite_image image ds offset text f = stored_or image (overwrite_plan image ds f offset text)

unfoldable pub image_overwritten : Bytes → List Descriptor → Bytes → Bytes → ℕ → Bytes → Bytes
image_overwritten image ds base path offset text =
    leaves image (overwrite_image image ds offset text) (overwriting image ds base path offset text)
