-- One new version stored: its fields are those of the block that it follows.
use Prim.Native.Nat.{ℕ, suc, max, min, ◌+◌, ◌-◌, ◌≤◌}
use Rattle.std.specs.Prelude.{◌≡◌, ◌≢◌, true, length, take, drop}
use Rattle.std.proofs.Math.Path.{sym}
use Rattle.std.proofs.Common.{ap, ◌∙◌, arith}
use Rattle.std.proofs.Math.Nat.{le-max_right}
use Rattle.format.specs.Bytes.{Bytes, le16, le32}
use Rattle.format.specs.Record.{block, record_sequence}
use Rattle.format.specs.Encoding.{block_bytes}
use Rattle.calls.specs.Image.{put, part}
use Rattle.calls.specs.Rewrite.{last_sequence}
use Rattle.calls.specs.Overwrite.{new_version}
use Rattle.image_laws.specs.Apart.{Apart, apart_part, apart_sym}
use Rattle.record_places.specs.Place.{block_at, bytes_at, by_place, Lies}
use Rattle.record_places.specs.Laws.{place_views}
use Rattle.file_blocks.specs.Walk.{data_is, data_long}

-- a block of n bytes lies at p, one that another sequence can follow, and apart from where its new version goes
pub record Versioned (x : Bytes) (p n at : ℕ) : Type 0 where
  pub lies : Lies x p
  pub is_block : block_at x p ≡ true
  pub size : n ≡ length ((by_place x).text p)
  pub follows : record_sequence (bytes_at x p) ≢ last_sequence
  pub apart : Apart p (block.header_size + n) at (block.header_size + n)

module _ {x : Bytes} {p n at : ℕ} (v : Versioned x p n at) (begin : ℕ) (text : Bytes) where
  text_part : part x (p + block.header_size) n ≡ (by_place x).text p
  text_part =
      let z : n ≡ le16 x (p + 20) = v.size ∙ sym (data_long x p v.lies v.is_block) in
      ap (λ k. take k (drop (p + 24) x)) z ∙ sym (data_is x p v.lies v.is_block)

  pub version_stored : (id sequence next owner previous : ℕ) (y : Bytes)
      → id ≡ le32 x (p + 4) → sequence ≡ le32 x (p + 8) → owner ≡ le32 x (p + 12) → previous ≡ le32 x (p + 16)
      → (sequence ≢ last_sequence → next ≡ suc sequence)
      → (Apart (p + block.header_size) n at (block.header_size + n)
      → y ≡ put x at (block_bytes id next owner previous (put (part x (p + block.header_size) n) begin text)))
      → y ≡ put x at (new_version (record { block = bytes_at x p; text = put ((by_place x).text p) begin text }))
  unfolding new_version
  version_stored id sequence next owner previous y ie se oe pe more stored =
      let w = place_views x in
      let known : record_sequence (bytes_at x p) ≡ sequence = w.sequence p ∙ sym se in
      let s : next ≡ suc sequence = more (λ e. v.follows (known ∙ e)) in
      stored (apart_sym (apart_part (apart_sym v.apart) block.header_size n (omega arith)))
      ∙ rw (text_part, s, ie, oe, pe, ← known, ← w.id p, ← w.owner p, ← w.previous p)

from_first : (f b d : ℕ) → f ≤ b → d - f - (b - f) ≡ d - b
from_first f b d h = omega arith

-- with a part of a text, from b up to d in the file, where the text begins at `from`
pub version_part : (x y : Bytes) (p n at s from to : ℕ) (text : Bytes) (b d : ℕ) → b ≡ max s from → d ≡ min (s + n) to
    → y ≡ put x at (new_version (record {
      block = bytes_at x p;
      text = put ((by_place x).text p) (b - s) (part text (b - from) (d - from - (b - from)));
    }))
    → y ≡ put x at (new_version (record {
      block = bytes_at x p;
      text = put ((by_place x).text p) (max s from - s) (part text (max s from - from) (min (s + n) to - max s from));
    }))
version_part x y p n at s from to text b d be de stored =
    rw (from_first from (max s from) (min (s + n) to) (le-max_right s from)) at (rw (be, de) at stored)
