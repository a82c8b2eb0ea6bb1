-- The acceptable record. Document 01, "Layouts" and "Acceptable record".
use Rattle.std.specs.Prelude.{ℕ, ◌+◌, [], ◌∷◌, Bool, true, cond, not, ◌&&◌, ◌||◌, length, take, drop, ltb, leb, eqb}
use Rattle.format.specs.Bytes.{Bytes, byte_at, le16, le32}
use Rattle.format.specs.Crc.{check}
use Rattle.format.specs.Ids.{NONE, root_id, is_directory_id, is_file_id, is_inode_id, is_block_id}

-- Fields that both kinds have at the same place; the link is an inode's parent or a block's owner.

abbrev pub record_id : Bytes → ℕ
record_id b = le32 b 4

abbrev pub record_sequence : Bytes → ℕ
record_sequence b = le32 b 8

abbrev pub record_link : Bytes → ℕ
record_link b = le32 b 12

-- fields of inodes
abbrev pub inode_reserved : Bytes → ℕ
inode_reserved b = byte_at b 16

abbrev pub name_length : Bytes → ℕ
name_length b = byte_at b 17

-- fields of blocks
abbrev pub block_previous : Bytes → ℕ
block_previous b = le32 b 16

abbrev pub data_length : Bytes → ℕ
data_length b = le16 b 20

-- "no '/' or NUL in the name"
unfoldable pub name_good : Bytes → Bool
name_good [] = true
name_good (b ∷ l) = not (eqb b 0) && not (eqb b 0x2f) && name_good l

-- "Id 0: parent NONE and n = 0. Other ids: parent is a directory id and n is 1 to 255, or parent is NONE (a deletion record) and n is 0 to 255":
-- the length field holds one byte, so that n is at most 255 as it stands
unfoldable pub inode_rule : ℕ → ℕ → ℕ → Bool
inode_rule id parent n =
    is_inode_id id
    && cond (eqb id root_id) (eqb parent NONE && eqb n 0) (eqb parent NONE || (is_directory_id parent && ltb 0 n))

-- T-03: "reading allows 2,048 always", whatever the greatest block size of writers
abbrev pub longest_data : ℕ
longest_data = 2048

-- "previous a block id other than its own, or NONE"
unfoldable pub previous_rule : ℕ → ℕ → Bool
previous_rule id previous = eqb previous NONE || (not (eqb previous id) && is_block_id previous)

-- "block id; owner a file id; previous ..; n from 1 to 2,048"
unfoldable pub block_rule : ℕ → ℕ → ℕ → ℕ → Bool
block_rule id owner previous n = is_block_id id && is_file_id owner && previous_rule id previous && (ltb 0 n && leb n longest_data)

-- "Each kind of record knows its own header size and check offset, as facts of that kind"; the rules read a whole record's bytes
pub record Kind : Type 0 where
  pub magic : ℕ
  pub header_size : ℕ
  pub check_offset : ℕ
  pub body_length : Bytes → ℕ
  pub rules : Bytes → Bool

-- T-14: "Records .. whose reserved byte isn't 0 are no longer acceptable"; a block has no such byte
unfoldable pub inode_rules : Bytes → Bool
inode_rules b = eqb (inode_reserved b) 0 && inode_rule (record_id b) (record_link b) (name_length b) && name_good (drop 20 b)

unfoldable pub block_rules : Bytes → Bool
block_rules b = block_rule (record_id b) (record_link b) (block_previous b) (data_length b)

abbrev pub inode : Kind
inode = record { magic = 0x925f8bc0; header_size = 20; check_offset = 18; body_length = name_length; rules = inode_rules }

abbrev pub block : Kind
block = record { magic = 0x53ba23b9; header_size = 24; check_offset = 22; body_length = data_length; rules = block_rules }

-- "It covers all header bytes before the check field, magic included, then name or data"
unfoldable pub check_right : Kind → Bytes → Bool
check_right k b = eqb (le16 b k.check_offset) (check (take k.check_offset b) (drop k.header_size b))

-- the bytes of one whole record are right
unfoldable pub well_formed : Kind → Bytes → Bool
well_formed k b = eqb (le32 b 0) k.magic && k.rules b && check_right k b

-- the size that the record at the front of some bytes declares
abbrev pub declared_size : Kind → Bytes → ℕ
declared_size k t = k.header_size + k.body_length t

-- a record of the kind stands at the front: "header and body lie inside the area", and its bytes are right
unfoldable pub acceptable : Kind → Bytes → Bool
acceptable k t = leb (declared_size k t) (length t) && well_formed k (take (declared_size k t) t)

-- the size of the acceptable record at the front of the rest of an area, 0 where there is none
unfoldable pub record_size : Bytes → ℕ
record_size t = cond (acceptable inode t) (declared_size inode t) (cond (acceptable block t) (declared_size block t) 0)
