-- Document 01, "Measured on the bench": the cases marked (P), one table under one theorem.
use Rattle.std.specs.Prelude.{refl}
use Rattle.std.proofs.Common.{arith}
use Rattle.format.specs.Bytes.{le16, le32}
use Rattle.format.specs.Crc.{crc_bit, crc_byte, crc_over, check}
use Rattle.format.specs.Ids.{is_directory_id, is_file_id, is_inode_id, is_block_id}
use Rattle.format.specs.Record.{name_good, inode_rule, inode_rules, previous_rule, block_rule, block_rules, check_right, well_formed, acceptable, record_size}
use Rattle.format.specs.Encoding.{inode_front, block_front, sealed, inode_bytes, block_bytes}
use Rattle.format.specs.BlockSize.{greatest_block}
use Rattle.volume.specs.Lists.{all}
use Rattle.volume.specs.Path.{split_byte, segments, good_segment, good_segments, is_absolute, absolute_names, good_absolute, good_relative, good_path}
use Rattle.format_measured.specs.Measured.{Measured}

pub measured : Measured
unfolding greatest_block le16 le32 crc_bit crc_byte crc_over check is_directory_id is_file_id is_inode_id is_block_id name_good inode_rule inode_rules
    previous_rule block_rule block_rules check_right well_formed acceptable record_size inode_front block_front sealed inode_bytes block_bytes all
    split_byte segments good_segment good_segments is_absolute absolute_names good_absolute good_relative good_path
measured = record {
  table = refl;
  beyond = λ n h. omega arith;
}
