-- The headers of records, from their bytes. Document 01, "Layouts".
use Rattle.format.specs.Bytes.{Bytes}
use Rattle.format.specs.Record.{record_id, record_sequence, record_link, name_length, block_previous, data_length}
use Rattle.record_read.specs.declared.InodeHeader.{InodeHeader}
use Rattle.record_read.specs.declared.BlockHeader.{BlockHeader}

unfoldable pub inode_header : Bytes → InodeHeader
inode_header b = record { id = record_id b; sequence = record_sequence b; parent = record_link b; length = name_length b }

unfoldable pub block_header : Bytes → BlockHeader
block_header b = record {
  id = record_id b;
  sequence = record_sequence b;
  owner = record_link b;
  previous = block_previous b;
  length = data_length b;
}
