-- The size is what the header declares, if the bytes have room for it, and the rules and the check are right.
use Rattle.std.proofs.Common.{◌+◌, ◌<◌, ◌∙◌, length, arith}
use Rattle.format.specs.Record.{block, check_right}
use Rattle.format_laws.specs.Record.{block_lawful, only_block, no_room}
use Rattle.record_read.specs.Sizes.{size_decided}
use Rattle.record_read.proofs.block_size.Goals as goal

pub returns-in_default : goal.returns-in_default
returns-in_default c =
    let t = c.args.t.now in
    let short : length t < 24 + c.load16.result = let h = c.in_default.ensures.lookup in omega arith in
    no_room block block_lawful t _ c.requires.1 (omega arith) (only_block t c.requires.1) short

pub returns : goal.returns
unfolding check_right
returns c =
    let t = c.args.t.now in
    let taken = c.in-Some.ensures.lookup.0 in
    size_decided block block_lawful t (24 + c.load16.result) c.requires.1 (omega arith) (only_block t c.requires.1) taken.1 _ (taken.2 ∙ grind arith)
    c.block_rules.result c.block_rules.ensures _ c.right_size.ensures
