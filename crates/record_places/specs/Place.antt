-- What the rules read of the record that starts at a place of an image.
use Rattle.std.specs.Prelude.{ℕ, ◌+◌, ◌-◌, ◌≤◌, ◌<◌, Bool, cond, List, length, take, drop, get_or, eqb}
use Rattle.format.specs.Bytes.{Bytes, byte_at, le16, le32}
use Rattle.format.specs.Record.{block}
use Rattle.volume.specs.Lists.{same}
use Rattle.volume.specs.View.{View}

abbrev pub block_at : Bytes → ℕ → Bool
block_at image p = eqb (le32 image p) block.magic

-- the size of the record at a place, by its kind; at no place is it less than an inode's header
unfoldable pub size_at : Bytes → ℕ → ℕ
size_at image p = cond (block_at image p) (24 + le16 image (p + 20)) (20 + byte_at image (p + 17))

-- the bytes of the record at a place
unfoldable pub bytes_at : Bytes → ℕ → Bytes
bytes_at image p = take (size_at image p) (drop p image)

-- records held by their places
abbrev pub by_place : Bytes → View ℕ
by_place image = record {
  id = λ p. le32 image (p + 4);
  sequence = λ p. le32 image (p + 8);
  is_block = block_at image;
  parent = λ p. le32 image (p + 12);
  name = λ p. take (size_at image p - 20) (drop (p + 20) image);
  owner = λ p. le32 image (p + 12);
  previous = λ p. le32 image (p + 16);
  text = λ p. take (size_at image p - 24) (drop (p + 24) image);
  same = λ p q. same (bytes_at image p) (bytes_at image q);
}

-- the record at a place lies in the image
abbrev pub Lies : Bytes → ℕ → Type 0
Lies image p = p + size_at image p ≤ length image

-- and so do those at the first n places of a list
abbrev pub AllLie : Bytes → List ℕ → ℕ → Type 0
AllLie image ps n = (i : ℕ) → i < n → Lies image (get_or ps i 0)
