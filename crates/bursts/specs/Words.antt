-- The words of T-11, "which damage is surely caught".
use Rattle.std.specs.Prelude.{ℕ, zero, suc, ◌+◌, ◌-◌, ◌*◌, ◌/◌, ◌%◌, ◌^◌, ◌≤◌, ◌<◌, ◌≡◌, ◌≢◌, true, cond, eqb}
use Rattle.format.specs.Bytes.{Bytes, byte_at}
use Rattle.format.specs.Record.{Kind, inode, block, acceptable}
use Rattle.format_laws.specs.Crc.{Octets}

-- A record is at the front of some bytes t, the rest of an area; afterwards the bytes s are there.

-- the bit at a place of some bytes, "in the order the CRC takes them": byte after byte, each from its highest bit on
unfoldable pub bit_at : Bytes → ℕ → ℕ
bit_at b p = byte_at b (p / 8) / 2 ^ (7 - p % 8) % 2

-- the bit at the place p is one of the first n bytes, and was altered
abbrev pub Altered : ℕ → Bytes → Bytes → ℕ → Type 0
Altered n t s p = (p < n * 8) × (bit_at s p ≢ bit_at t p)

-- "the altered bits of" n bytes, "one at least, span at most 16 bits in a row": from the place `start` on
pub record Burst (n : ℕ) (t s : Bytes) : Type 0 where
  pub one : ℕ
  pub one_altered : Altered n t s one
  pub start : ℕ
  pub span : (p : ℕ) → Altered n t s p → (start ≤ p) × (p < start + 16)

-- the parts of a record of n bytes, each from a byte up to another
pub data Part (k : Kind) (n : ℕ) : ℕ → ℕ → Type 0 where
  covered_header : Part k n 0 k.check_offset
  check_field : Part k n k.check_offset k.header_size
  body : Part k n k.header_size n

-- they "lie wholly in the covered header, wholly in the check field or wholly in the body": the 16 bits of the check field stand between the
-- other two, so that no burst has bits of both, and the last byte of the covered header is the length field's
pub record Wholly (k : Kind) (n : ℕ) (t s : Bytes) : Type 0 where
  pub from : ℕ
  pub to : ℕ
  pub part : Part k n from to
  pub inside : (p : ℕ) → Altered n t s p → (from * 8 ≤ p) × (p < to * 8)

-- the kinds of records that there are
pub data IsKind : Kind → Type 0 where
  is_inode : IsKind inode
  is_block : IsKind block

-- "an acceptable record", of which any bytes may have been altered, but "the length field is unaltered"
pub record Damaged (k : Kind) (t s : Bytes) : Type 0 where
  pub kind : IsKind k
  pub bytes_before_lem : Octets t
  pub bytes_after : Octets s
  pub accepted : acceptable k t ≡ true
  pub same_length : k.body_length s ≡ k.body_length t

-- Beyond the request: how many of the first m bits were altered
unfoldable pub altered_bits : ℕ → Bytes → Bytes → ℕ
altered_bits zero t s = 0
altered_bits (suc m) t s = altered_bits m t s + cond (eqb (bit_at t m) (bit_at s m)) 0 1

-- of the bits of n bytes one, two or three were altered, in whichever parts they stand
pub record Few (n : ℕ) (t s : Bytes) : Type 0 where
  pub least : 1 ≤ altered_bits (n * 8) t s
  pub most : altered_bits (n * 8) t s ≤ 3

-- the damage to a record of n bytes that is surely caught; beyond the request, and since T-14, a burst from the covered header into the check field
-- too: the byte that it must alter in front of an inode's length field is the reserved one
pub data Sure (k : Kind) (n : ℕ) (t s : Bytes) : Type 0 where
  a_burst : Burst n t s → Wholly k n t s → Sure k n t s
  a_header_burst : Burst n t s → ((p : ℕ) → Altered n t s p → p < k.header_size * 8) → Sure k n t s
  few_bits : Few n t s → Sure k n t s
