-- A record of an image stays where the bytes of the image there stay.
use Rattle.std.specs.Prelude.{ℕ, ◌+◌, ◌≤◌, ◌<◌, ◌≡◌, refl, Bool, true, false, length, take, drop, eqb}
use Rattle.std.proofs.Common.{sym, ap, ◌∙◌, arith, length-take, length-drop}
use Rattle.format.specs.Bytes.{Bytes, byte_at, le16, le32}
use Rattle.format.specs.Record.{block}
use Rattle.format_laws.specs.Bytes.{same_byte, same_le16, same_le32, drop_byte, drop_le16, drop_le32}
use Rattle.record_places.specs.Place.{block_at, size_at, bytes_at, Lies}
use Rattle.record_places.specs.Laws.{size_block, size_inode, size_least}

module _ (x y : Bytes) (p : ℕ) (same : take (size_at x p) (drop p y) ≡ take (size_at x p) (drop p x)) where
  abbrev n : ℕ
  n = size_at x p

  word : (i : ℕ) → i + 4 ≤ n → le32 y (p + i) ≡ le32 x (p + i)
  word i h = sym (drop_le32 p y i) ∙ same_le32 n (drop p y) (drop p x) same i h ∙ drop_le32 p x i

  half : (i : ℕ) → i + 2 ≤ n → le16 y (p + i) ≡ le16 x (p + i)
  half i h = sym (drop_le16 p y i) ∙ same_le16 n (drop p y) (drop p x) same i h ∙ drop_le16 p x i

  byte : (i : ℕ) → i < n → byte_at y (p + i) ≡ byte_at x (p + i)
  byte i h = sym (drop_byte p y i) ∙ same_byte n (drop p y) (drop p x) same i h ∙ drop_byte p x i

  pub kind_stays : block_at y p ≡ block_at x p
  kind_stays = let z : p + 0 ≡ p = omega arith in ap (λ m. eqb m block.magic) (rw z at (word 0 (omega (arith, size_least x p))))

  pub size_stays : size_at y p ≡ size_at x p
  size_stays = go (block_at x p) refl
    where
      go : (b : Bool) → block_at x p ≡ b → size_at y p ≡ size_at x p
      go true e =
          let k = size_block x p e in
          size_block y p (kind_stays ∙ e) ∙ rw (half 20 (omega arith)) (sym k)
      go false e =
          let k = size_inode x p e in
          size_inode y p (kind_stays ∙ e) ∙ rw (byte 17 (omega (arith, size_least x p))) (sym k)

  pub bytes_stay : bytes_at y p ≡ bytes_at x p
  unfolding bytes_at
  bytes_stay = rw size_stays same

pub bytes_long : (x : Bytes) (p : ℕ) → Lies x p → length (bytes_at x p) ≡ size_at x p
unfolding bytes_at
bytes_long x p h = omega (arith, length-take (size_at x p) (drop p x), length-drop p x)
