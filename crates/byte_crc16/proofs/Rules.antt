-- The two tables of the check: each passes the test of its rule.
use Rattle.format.specs.Crc.{crc_bit}
use Rattle.crc_laws.specs.Register.{crc_bits}
use Rattle.crc_laws.specs.Table.{by_rule, TableOf, high_later, low_later}
use Rattle.crc_laws.proofs.Table.{table_of}
use Rattle.byte_crc16.specs.declared.tables.TheConstants.{HIGH, LOW}

pub high_rule : TableOf high_later HIGH
unfolding by_rule high_later crc_bits crc_bit
high_rule = search (table_of high_later)

pub low_rule : TableOf low_later LOW
unfolding by_rule low_later crc_bits crc_bit
low_rule = search (table_of low_later)
