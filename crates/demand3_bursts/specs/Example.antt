-- The first damaged image of demand 3's example is such damage: a burst in one record. What is left to be assumed is computed. And why
-- something is left: a block may hold a record.
use Rattle.std.specs.Prelude.{◌*◌, ◌≡◌, [], ◌∷◌, drop, set}
use Rattle.format.specs.Bytes.{Bytes}
use Rattle.format.specs.Ids.{NONE}
use Rattle.format.specs.Record.{record_size}
use Rattle.format.specs.Encoding.{inode_bytes, block_bytes}
use Rattle.bursts.specs.Words.{altered_bits}

-- ---- what is left must be assumed

-- a block whose data are a file's record, and with one bit of its id altered
unfoldable pub holder : Bytes
holder = block_bytes 0x80000000 0 0x10000000 NONE (inode_bytes 0x10000000 0 0 (0x61 ∷ []))

unfoldable pub holder_lost : Bytes
holder_lost = set holder 4 0x01

-- no record starts at its first byte, but one does at its data
pub record Behind : Type 0 where
  pub before : record_size holder ≡ 45
  pub one_bit : altered_bits (45 * 8) holder holder_lost ≡ 1
  pub at_start : record_size holder_lost ≡ 0
  pub at_data : record_size (drop 24 holder_lost) ≡ 21
