-- How long the new versions are, and where they go: as the code plans it, by the sizes of the blocks.
use Rattle.std.specs.Prelude.{ℕ, ◌+◌, ◌≤◌, ◌≡◌, refl, Bool, true, false, cond, List, [], ◌∷◌, map, length}
use Rattle.std.proofs.Common.{ap, ap₂, ◌∙◌, arith, length-append}
use Rattle.format.specs.Bytes.{Bytes}
use Rattle.format.specs.Record.{block}
use Rattle.format_laws.specs.Encoding.{block_size}
use Rattle.volume.specs.View.{by_bytes}
use Rattle.volume.specs.Contents.{text_of}
use Rattle.calls.specs.Image.{part}
use Rattle.calls.specs.Overwrite.{Change, holds_byte, changes_from, new_version}
use Rattle.image_laws.specs.Laws.{part_length}
use Rattle.write_versions.specs.Held.{sizes_held}

-- a block's data
abbrev held_by : Bytes → ℕ
held_by b = length (by_bytes.text b)

pub version_size : (c : Change) → length (new_version c) ≡ block.header_size + length c.text
unfolding new_version
version_size c = block_size _ _ _ _ c.text

-- each is as long as its block
pub versions_sizes : (from to : ℕ) (after : Bytes) (s : ℕ) (bs : List Bytes) → s + length (text_of by_bytes bs) ≤ length after
    → map length (map new_version (changes_from from to after s bs))
    ≡ map (λ n. block.header_size + n) (sizes_held from to s (map held_by bs))
unfolding changes_from sizes_held text_of
versions_sizes from to after s [] h = refl
versions_sizes from to after s (b ∷ bs) h =
    let l = length-append (by_bytes.text b) (text_of by_bytes bs) in
    go (holds_byte from to s (held_by b)) (versions_sizes from to after (s + held_by b) bs (omega arith))
    (version_size (record { block = b; text = part after s (held_by b) })
    ∙ ap (λ n. block.header_size + n) (part_length after s (held_by b) (omega arith)))
  where
    go : (t : Bool)
        → map length (map new_version (changes_from from to after (s + held_by b) bs))
        ≡ map (λ n. block.header_size + n) (sizes_held from to (s + held_by b) (map held_by bs))
        → length (new_version (record { block = b; text = part after s (held_by b) })) ≡ block.header_size + held_by b
        → map length (map new_version
        (cond t (record { block = b; text = part after s (held_by b) } ∷ changes_from from to after (s + held_by b) bs) (changes_from from to after (s + held_by b) bs)))
        ≡ map (λ n. block.header_size + n)
        (cond t (held_by b ∷ sizes_held from to (s + held_by b) (map held_by bs)) (sizes_held from to (s + held_by b) (map held_by bs)))
    go true ih e = ap₂ (λ (n : ℕ) (l : List ℕ). n ∷ l) e ih
    go false ih e = ih
