use Rattle.std.proofs.Common.{arith}
use Rattle.file_blocks.specs.Walk.{own_lies, own_block, data_part}
use Rattle.file_read.specs.Follow.{sized_is, going_begins, going_left, going_found, going_fits, going_on, going_counts, going_fills}
use Rattle.file_read.proofs.Blocks.{of_blocks}
use Rattle.file_read.proofs.follow.Goals as goal

pub loop-end-init : goal.loop-end-init
loop-end-init c = λ bs e. going_begins e (sized_is _ _ _ bs c.requires.whole e)

pub returns-in_default-clause-headers : goal.returns-in_default-clause-headers
returns-in_default-clause-headers c = absurd (going_found (of_blocks _ _ _ _ c.requires.whole c.loop-end.invariant) c.loop-end-test.true c.in_default.ensures)

pub returns-in_default-clause-bytes : goal.returns-in_default-clause-bytes
returns-in_default-clause-bytes c = absurd (going_found (of_blocks _ _ _ _ c.requires.whole c.loop-end.invariant) c.loop-end-test.true c.in_default.ensures)

pub data_length-n-requires-clause-lies_2 : goal.data_length-n-requires-clause-lies_2
data_length-n-requires-clause-lies_2 c = own_lies c.requires.block_table c.args.chain.file c.loop-end.id c.in-Some.p c.in-Some.ensures

pub data_length-n-requires-clause-p_value : goal.data_length-n-requires-clause-p_value
data_length-n-requires-clause-p_value c = own_block c.requires.block_table c.args.chain.file c.loop-end.id c.in-Some.p c.in-Some.ensures

pub overflow_sub-end : goal.overflow_sub-end
overflow_sub-end c =
    omega (arith, c.data_length-n.ensures.told, going_fits (of_blocks _ _ _ _ c.requires.whole c.loop-end.invariant) c.loop-end-test.true c.in-Some.p c.in-Some.ensures)

pub previous_at-id-requires : goal.previous_at-id-requires
previous_at-id-requires c = own_lies c.requires.block_table c.args.chain.file c.loop-end.id c.in-Some.p c.in-Some.ensures

pub overflow_sub-left : goal.overflow_sub-left
overflow_sub-left c = going_left (of_blocks _ _ _ _ c.requires.whole c.loop-end.invariant) c.loop-end-test.true

pub loop-end-smaller : goal.loop-end-smaller
loop-end-smaller c = omega (arith, going_left (of_blocks _ _ _ _ c.requires.whole c.loop-end.invariant) c.loop-end-test.true)

pub loop-end-preserved : goal.loop-end-preserved
loop-end-preserved c =
    let t = c.requires.block_table in
    let is = c.in-Some.ensures in
    let lies = own_lies t c.args.chain.file c.loop-end.id c.in-Some.p is in
    let block = own_block t c.args.chain.file c.loop-end.id c.in-Some.p is in
    λ bs e. going_on (c.loop-end.invariant bs e) c.loop-end-test.true c.in-Some.p is
    c.previous_at-id.result c.data_length-n.result _ c.lay.new.buffer c.previous_at-id.ensures c.data_length-n.ensures.told
    (data_part c.args.rows.now.image.now c.in-Some.p lies block c.data_length-n.result c.data_length-n.ensures.told) c.lay.ensures

pub overflow_sub-result : goal.overflow_sub-result
overflow_sub-result c = (of_blocks _ _ _ _ c.requires.whole c.loop-end.invariant).within

pub returns-clause-headers : goal.returns-clause-headers
returns-clause-headers c = λ bs e. going_counts (c.loop-end.invariant bs e) c.loop-end-test.false

pub returns-clause-bytes : goal.returns-clause-bytes
returns-clause-bytes c = λ bs e. going_fills (c.loop-end.invariant bs e) c.loop-end-test.false
