-- Damage that T-11 catches: bursts in each part of a record, in two bytes and in three; and its limits: damage that goes just beyond it and is
-- accepted.
use Rattle.std.specs.Prelude.{ℕ, ◌+◌, ◌*◌, ◌≡◌, Bool, true, false, ◌&&◌, [], ◌∷◌, ◌++◌, eqb}
use Rattle.std.proofs.lemmas.List.Edits.{sets}
use Rattle.format.specs.Bytes.{Bytes}
use Rattle.format.specs.Encoding.{inode_bytes, block_bytes}
use Rattle.format.specs.Ids.{NONE}
use Rattle.format.specs.Record.{Kind, inode, block}
use Rattle.format.specs.Record.{declared_size, acceptable, record_size}
use Rattle.bursts.specs.Words.{altered_bits}
use Rattle.bursts.specs.Decide.{alters_only, are_octets}

-- a file of the name a, and a block of three bytes
unfoldable pub file : Bytes
file = inode_bytes 0x10000000 0 0 (0x61 ∷ [])

unfoldable pub three : Bytes
three = block_bytes 0x80000000 0 0x10000000 NONE (0x41 ∷ 0x41 ∷ 0x41 ∷ [])

-- ---- caught

-- the front half of the block's magic in place of the inode's
unfoldable pub half_magic : Bytes
half_magic = sets file 0 (0xb9 ∷ 0x23 ∷ [])

-- the reserved byte
unfoldable pub reserved : Bytes
reserved = sets file 16 (0x80 ∷ [])

-- all 16 bits of the check field
unfoldable pub other_check : Bytes
other_check = sets file 18 (0x0f ∷ 0x3a ∷ [])

-- two bytes of a block's header, and 16 bits in a row of its body, in three bytes
unfoldable pub other_owner : Bytes
other_owner = sets three 12 (0xff ∷ 0xff ∷ [])

unfoldable pub other_data : Bytes
other_data = sets three 24 (0x4e ∷ 0x00 ∷ 0xb1 ∷ [])

-- and so no record starts there
pub record AllCaught : Type 0 where
  pub half_magic_lem : record_size half_magic ≡ 0
  pub reserved_byte : record_size reserved ≡ 0
  pub check_field : record_size other_check ≡ 0
  pub two_bytes : record_size other_owner ≡ 0
  pub three_bytes : record_size other_data ≡ 0

-- ---- accepted

-- four bits in 17 in a row of the body, which are the polynomial's
unfoldable pub seventeen : Bytes
seventeen = sets three 24 (0x63 ∷ 0x45 ∷ 0x61 ∷ [])

-- 16 bits in a row, from the check field into the body
unfoldable pub two : Bytes
two = block_bytes 0x80000000 0 0x10000000 NONE (0x41 ∷ 0x41 ∷ [])

unfoldable pub across : Bytes
across = sets two 22 (0xac ∷ 0xa8 ∷ 0xf1 ∷ [])

-- one bit of the length field
unfoldable pub long : Bytes
long = block_bytes 0x80000000 0 0x10000000 NONE (0x41 ∷ 0xaf ∷ 0xf8 ∷ [])

unfoldable pub shorter : Bytes
shorter = sets long 20 (0x01 ∷ [])

-- an odd number of bits, into a record of the other kind and of another length
unfoldable pub named : Bytes
named = inode_bytes 0x10000000 0 0 (0x61 ∷ 0x62 ∷ 0x63 ∷ 0x64 ∷ 0x65 ∷ 0x66 ∷ 0x67 ∷ 0x68 ∷ 0x69 ∷ 0x6a ∷ [])

unfoldable pub as_block : Bytes
as_block = block_bytes 0x80000000 0 0x10000000 0x80000a00 (0x41 ∷ 0x41 ∷ 0x41 ∷ 0x41 ∷ 0x41 ∷ []) ++ (0x01 ∷ [])

-- damage to an acceptable record, of so many bits, in so many in a row from `start` on, with the length field kept or not: afterwards a
-- record of `left` bytes stands there
pub record Limit (k : Kind) (t s : Bytes) (kept : Bool) (bits start row left : ℕ) : Type 0 where
  pub bytes : (are_octets t && are_octets s) ≡ true
  pub before : acceptable k t ≡ true
  pub same_length : eqb (k.body_length s) (k.body_length t) ≡ kept
  pub many : altered_bits (declared_size k t * 8) t s ≡ bits
  pub span : alters_only (declared_size k t) t s start (start + row) ≡ true
  pub after : record_size s ≡ left

pub record Limits : Type 0 where
  pub seventeen_bits : Limit block three seventeen true 4 194 17 27
  pub border_crossed : Limit block two across true 10 180 16 26
  pub length_field : Limit block long shorter false 1 166 1 25
  pub other_kind_lem : Limit inode named as_block true 61 1 239 29
