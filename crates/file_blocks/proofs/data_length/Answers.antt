use Rattle.std.proofs.Common.{◌∙◌, arith}
use Rattle.file_blocks.specs.Walk.{data_inside, data_long}
use Rattle.file_blocks.proofs.data_length.Goals as goal

pub load16-requires : goal.load16-requires
load16-requires c = omega (arith, data_inside c.args.image.now c.args.p c.requires.lies_2 c.requires.p_value)

pub returns-clause-told : goal.returns-clause-told
returns-clause-told c = c.load16.ensures.0 ∙ data_long c.args.image.now c.args.p c.requires.lies_2 c.requires.p_value

pub returns-clause-lies : goal.returns-clause-lies
returns-clause-lies c = omega (arith, data_inside c.args.image.now c.args.p c.requires.lies_2 c.requires.p_value, c.load16.ensures.0)
