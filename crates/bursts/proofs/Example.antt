-- Damage that T-11 catches: bursts in each part of a record, in two bytes and in three; and its limits: damage that goes just beyond it and is
-- accepted.
use Rattle.std.specs.Prelude.{ℕ, ◌≡◌, refl, true}
use Rattle.format.specs.Bytes.{Bytes, le16, le32}
use Rattle.format.specs.Crc.{crc_bit, crc_byte, crc_over, check}
use Rattle.format.specs.Encoding.{inode_front, block_front, sealed, inode_bytes, block_bytes}
use Rattle.format.specs.Ids.{is_directory_id, is_file_id, is_inode_id, is_block_id}
use Rattle.format.specs.Record.{Kind, inode, block, name_good, inode_rule, previous_rule, block_rule, inode_rules, block_rules, check_right, well_formed}
use Rattle.format.specs.Record.{declared_size, acceptable, record_size}
use Rattle.bursts.specs.Words.{bit_at, Part, covered_header, check_field, body, IsKind, is_inode, is_block, altered_bits}
use Rattle.bursts.proofs.Caught.{caught}
use Rattle.bursts.specs.Decide.{below, alters_only, are_octets, is_damaged, is_burst}
use Rattle.bursts.proofs.Decide.{is_damaged_lem, is_sure_lem}
use Rattle.bursts.specs.Example.{file, three, half_magic, reserved, other_check, other_owner, other_data, AllCaught, seventeen, two, across, long, shorter, named, as_block, Limits}

-- ---- caught

-- each is damage as T-11 supposes it, computed
record Supposed (k : Kind) (t s : Bytes) (one start from to : ℕ) : Type 0 where
  damaged : is_damaged k t s ≡ true
  burst : is_burst (declared_size k t) t s one start from to ≡ true

record AllSupposed : Type 0 where
  half_magic_lem : Supposed inode file half_magic 1 0 0 18
  reserved_byte : Supposed inode file reserved 128 128 0 18
  check_field : Supposed inode file other_check 144 144 18 20
  two_bytes : Supposed block three other_owner 96 96 0 22
  three_bytes : Supposed block three other_data 196 196 24 27

computed : AllSupposed
unfolding
    file three half_magic reserved other_check other_owner other_data inode_bytes block_bytes sealed inode_front block_front le16 le32 crc_bit crc_byte
    crc_over check is_directory_id is_file_id is_inode_id is_block_id name_good inode_rule previous_rule block_rule inode_rules block_rules check_right well_formed
    acceptable bit_at below alters_only are_octets is_damaged is_burst
computed = record {
  half_magic_lem = record { damaged = refl; burst = refl };
  reserved_byte = record { damaged = refl; burst = refl };
  check_field = record { damaged = refl; burst = refl };
  two_bytes = record { damaged = refl; burst = refl };
  three_bytes = record { damaged = refl; burst = refl };
}

so_caught : {k : Kind} (i : IsKind k) {t s : Bytes} {one start from to : ℕ} → Part k (declared_size k t) from to → Supposed k t s one start from to → record_size s ≡ 0
so_caught {k} i {t} {s} {one} {start} {from} {to} part c =
    caught k t s (is_damaged_lem k t s i c.damaged) (is_sure_lem k (declared_size k t) t s one start from to part c.burst)

pub all_caught : AllCaught
unfolding le16 three block_bytes sealed block_front
all_caught = record {
  half_magic_lem = so_caught is_inode covered_header computed.half_magic_lem;
  reserved_byte = so_caught is_inode covered_header computed.reserved_byte;
  check_field = so_caught is_inode check_field computed.check_field;
  two_bytes = so_caught is_block covered_header computed.two_bytes;
  three_bytes = so_caught is_block body computed.three_bytes;
}

-- ---- accepted

pub limits : Limits
unfolding
    three seventeen two across long shorter named as_block inode_bytes block_bytes sealed inode_front block_front le16 le32 crc_bit crc_byte crc_over
    check is_directory_id is_file_id is_inode_id is_block_id name_good inode_rule previous_rule block_rule inode_rules block_rules check_right well_formed
    acceptable record_size bit_at altered_bits below alters_only are_octets
limits = record {
  seventeen_bits = record { bytes = refl; before = refl; same_length = refl; many = refl; span = refl; after = refl };
  border_crossed = record { bytes = refl; before = refl; same_length = refl; many = refl; span = refl; after = refl };
  length_field = record { bytes = refl; before = refl; same_length = refl; many = refl; span = refl; after = refl };
  other_kind_lem = record { bytes = refl; before = refl; same_length = refl; many = refl; span = refl; after = refl };
}
