-- What the rules tell of places is what they tell of the bytes there.
use Rattle.std.specs.Prelude.{ℕ, ◌+◌, ◌-◌, ◌≤◌, ◌<◌, ◌≡◌, refl, ◌≢◌, Bool, true, false, cond, take, drop}
use Rattle.std.proofs.Common.{sym, ap, ◌∙◌, arith, length-take, length-drop, drop-drop, take-take}
use Rattle.format.specs.Bytes.{Bytes, byte_at, le16, le32}
use Rattle.format.specs.Record.{inode, block, record_size}
use Rattle.format_laws.specs.Bytes.{take_byte, take_le16, take_le32, drop_byte, drop_le16, drop_le32, drop_take}
use Rattle.format_laws.specs.Record.{record_inside, kind_magic, inode_lawful, block_lawful, Stands, an_inode, a_block, nothing, stands}
use Rattle.volume.specs.View.{by_bytes}
use Rattle.volume_laws.specs.Map.{Views}
use Rattle.volume_laws.specs.Tests.{true→T}
use Rattle.volume_laws.specs.Lists.{same_eq}
use Rattle.record_places.specs.Place.{block_at, size_at, bytes_at, by_place, Lies}

pub size_block : (image : Bytes) (p : ℕ) → block_at image p ≡ true → size_at image p ≡ 24 + le16 image (p + 20)
unfolding size_at
size_block image p e = rw e

pub size_inode : (image : Bytes) (p : ℕ) → block_at image p ≡ false → size_at image p ≡ 20 + byte_at image (p + 17)
unfolding size_at
size_inode image p e = rw e

pub size_least : (image : Bytes) (p : ℕ) → 20 ≤ size_at image p
unfolding size_at
size_least image p = go (block_at image p)
  where
    go : (b : Bool) → 20 ≤ cond b (24 + le16 image (p + 20)) (20 + byte_at image (p + 17))
    go true = omega arith
    go false = omega arith

word : (image : Bytes) (p k : ℕ) → k + 4 ≤ 20 → le32 (bytes_at image p) k ≡ le32 image (p + k)
unfolding bytes_at
word image p k h = take_le32 (size_at image p) (drop p image) k (omega (arith, size_least image p)) ∙ drop_le32 p image k

-- a record's bytes behind its first a
behind : (image : Bytes) (p a : ℕ) → drop a (bytes_at image p) ≡ take (size_at image p - a) (drop (p + a) image)
unfolding bytes_at
behind image p a = drop_take a (size_at image p) (drop p image) ∙ rw (drop-drop a p image)

-- the bytes of places tell what the places tell
pub place_views : (image : Bytes) → Views (by_place image) by_bytes (bytes_at image)
place_views image = record {
  id = λ p. word image p 4 (omega arith);
  sequence = λ p. word image p 8 (omega arith);
  is_block = λ p. let z : p + 0 ≡ p = omega arith in rw (word image p 0 (omega arith), z);
  parent = λ p. word image p 12 (omega arith);
  name = λ p. behind image p 20;
  owner = λ p. word image p 12 (omega arith);
  previous = λ p. word image p 16 (omega arith);
  text = λ p. behind image p 24;
  same = λ p q. refl;
}

-- records of different ids have different bytes
pub ids_apart : (image : Bytes) (p q : ℕ) → (by_place image).id p ≢ (by_place image).id q → (by_place image).same p q ≡ false
ids_apart image p q d = go ((by_place image).same p q) refl
  where
    go : (b : Bool) → (by_place image).same p q ≡ b → (by_place image).same p q ≡ false
    go true e =
        let s = same_eq (bytes_at image p) (bytes_at image q) (true→T {b = (by_place image).same p q} e) in
        absurd (d (sym ((place_views image).id p) ∙ ap by_bytes.id s ∙ (place_views image).id q))
    go false e = e

-- The record that reading takes at the front of m bytes of the image from p on, seen from the image
module _ (image : Bytes) (p m : ℕ) (some : 0 < record_size (take m (drop p image))) where
  room : record_size (take m (drop p image)) ≤ m
  room = omega (arith, record_inside (take m (drop p image)), length-take m (drop p image))

  byte_there : (i : ℕ) → i < m → byte_at (take m (drop p image)) i ≡ byte_at image (p + i)
  byte_there i h = take_byte m (drop p image) i h ∙ drop_byte p image i

  half_there : (i : ℕ) → i + 2 ≤ m → le16 (take m (drop p image)) i ≡ le16 image (p + i)
  half_there i h = take_le16 m (drop p image) i h ∙ drop_le16 p image i

  word_there : (i : ℕ) → i + 4 ≤ m → le32 (take m (drop p image)) i ≡ le32 image (p + i)
  word_there i h = take_le32 m (drop p image) i h ∙ drop_le32 p image i

  magic_there : 4 ≤ m → (n : ℕ) → le32 (take m (drop p image)) 0 ≡ n → le32 image p ≡ n
  magic_there h n e = let z : p + 0 ≡ p = omega arith in rw z at (sym (word_there 0 h) ∙ e)

  pub size_taken : size_at image p ≡ record_size (take m (drop p image))
  size_taken = go (stands (take m (drop p image)))
    where
      go : Stands (take m (drop p image)) → size_at image p ≡ record_size (take m (drop p image))
      go (an_inode a e) =
          let f = magic_there (omega (arith, room)) inode.magic (kind_magic inode inode_lawful (take m (drop p image)) a) in
          size_inode image p (rw f) ∙ rw (← byte_there 17 (omega (arith, room))) (sym e)
      go (a_block b e) =
          let f = magic_there (omega (arith, room)) block.magic (kind_magic block block_lawful (take m (drop p image)) b) in
          size_block image p (rw f) ∙ rw (← half_there 20 (omega (arith, room))) (sym e)
      go (nothing e) = absurd (omega arith)

  pub bytes_taken : bytes_at image p ≡ take (record_size (take m (drop p image))) (take m (drop p image))
  unfolding bytes_at
  bytes_taken = rw size_taken (sym (take-take (record_size (take m (drop p image))) m (drop p image) room))

  pub lies_taken : Lies image p
  lies_taken = omega (arith, size_taken, record_inside (take m (drop p image)), length-take m (drop p image), length-drop p image, some)
