use Rattle.std.proofs.Common.{◌∙◌, arith}
use Rattle.table_rows.specs.Parts.{part_long}
use Rattle.table_fill.specs.Parts.{inode_rows, block_rows}
use Rattle.table_fill.proofs.Parts.{shown_block, shown_inode, indexed_block, indexed_inode}
use Rattle.table_fill.proofs.tabulate.Goals as goal

pub returns-then-is_block_at-clause-shown : goal.returns-then-is_block_at-clause-shown
returns-then-is_block_at-clause-shown c =
    shown_block c.requires.room c.requires.all_good c.args.p c.update.result c.update.new.rows c.update.auto.rows
    (cc) c.update.new.words c.update.ensures.shown

pub returns-then-is_block_at-clause-indexed : goal.returns-then-is_block_at-clause-indexed
returns-then-is_block_at-clause-indexed c =
    indexed_block c.requires.room c.requires.indexed_2 c.update.new.index c.update.new.rows c.update.new.words c.update.ensures.indexed.long
    (c.update.auto.rows ∙ part_long inode_rows block_rows c.args.rows.now (omega (arith, c.requires.room.both))) c.update.ensures.indexed

pub returns-clause-shown : goal.returns-clause-shown
returns-clause-shown c =
    shown_inode c.requires.room c.requires.all_good c.args.p c.update-2.result c.update-2.new.rows c.update-2.auto.rows
    (cc) c.update-2.new.words c.update-2.ensures.shown

pub returns-clause-indexed : goal.returns-clause-indexed
returns-clause-indexed c =
    indexed_inode c.requires.room c.requires.indexed_2 c.update-2.new.index c.update-2.new.rows c.update-2.new.words c.update-2.ensures.indexed.long
    (c.update-2.auto.rows ∙ part_long 0 inode_rows c.args.rows.now (omega (arith, c.requires.room.both))) c.update-2.ensures.indexed
