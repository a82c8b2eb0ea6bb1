use Rattle.std.proofs.Common.{◌≡◌, arith}
use Rattle.table_index.specs.Laws.{slot_within}
use Rattle.table_index.specs.Rows.{walk_rows, walk_finds, walk_ends}
use Rattle.table_index.proofs.row_of.Goals as goal

pub newest-k-requires : goal.newest-k-requires
newest-k-requires c = (rw c.slot_of.ensures (slot_within _), omega arith)

pub loop-k-init : goal.loop-k-init
loop-k-init c = rw (c.newest-k.ensures, c.slot_of.ensures) (walk_rows c.args.index.now c.args.ids.now c.args.n c.requires.row_index c.args.id)

pub returns-then-ids-k : goal.returns-then-ids-k
returns-then-ids-k c =
    walk_finds c.args.index.now c.args.ids.now c.args.n c.requires.row_index c.args.id c.requires.n_in_bounds c.loop-k.k
    c.loop-k-test.true c.loop-k.invariant.within c.if-ids-k.true

pub returns : goal.returns
returns c =
    let z : c.loop-k.k ≡ 0 = omega arith in
    walk_ends c.args.index.now c.args.ids.now c.args.n c.requires.row_index c.args.id c.requires.n_in_bounds (rw z at c.loop-k.invariant)
