-- Bytes and the numbers in them. Document 01, "What a call is given": multi-byte fields are little-endian.
use Rattle.std.specs.Prelude.{ℕ, ◌+◌, ◌*◌, ◌/◌, ◌%◌, List, ◌∷◌, get_or}

-- numbers that are bytes, each below 256, as every slice of the code has them
abbrev pub Bytes : Type 0
Bytes = List ℕ

-- the byte at a place, 0 past the end; no rule turns on what is read there, as records and headers must fit where they stand
abbrev pub byte_at : Bytes → ℕ → ℕ
byte_at b p = get_or b p 0

-- the numbers of two and of four bytes that start at a place
unfoldable pub le16 : Bytes → ℕ → ℕ
le16 b p = byte_at b p + byte_at b (p + 1) * 256

unfoldable pub le32 : Bytes → ℕ → ℕ
le32 b p = byte_at b p + byte_at b (p + 1) * 256 + byte_at b (p + 2) * 65536 + byte_at b (p + 3) * 16777216

-- the same numbers written in front of the bytes l
abbrev pub enc16 : ℕ → Bytes → Bytes
enc16 v l = v % 256 ∷ v / 256 % 256 ∷ l

abbrev pub enc32 : ℕ → Bytes → Bytes
enc32 v l = v % 256 ∷ v / 256 % 256 ∷ v / 256 / 256 % 256 ∷ v / 256 / 256 / 256 % 256 ∷ l
