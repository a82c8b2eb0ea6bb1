-- The size is what the header declares, if the bytes have room for it, and the rules and the check are right.
use Rattle.std.proofs.Common.{◌+◌, ◌<◌, ◌∙◌, length, arith}
use Rattle.format.specs.Record.{inode, check_right}
use Rattle.format_laws.specs.Record.{inode_lawful, only_inode, no_room}
use Rattle.record_read.specs.Sizes.{size_decided}
use Rattle.record_read.proofs.inode_size.Goals as goal

pub returns-in_default : goal.returns-in_default
returns-in_default c =
    let t = c.args.t.now in
    let short : length t < 20 + c.from-end.result = let h = c.in_default.ensures.lookup in omega arith in
    no_room inode inode_lawful t _ c.requires.1 (omega arith) (only_inode t c.requires.1) short

pub returns : goal.returns
unfolding check_right
returns c =
    let t = c.args.t.now in
    let taken = c.in-Some.ensures.lookup.0 in
    size_decided inode inode_lawful t (20 + c.from-end.result) c.requires.1 (omega arith) (only_inode t c.requires.1) taken.1 _ (taken.2 ∙ grind arith)
    c.inode_rules.result c.inode_rules.ensures _ c.right_size.ensures
