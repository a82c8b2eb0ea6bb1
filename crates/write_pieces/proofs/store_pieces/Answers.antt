use Rattle.std.proofs.Common.{◌∙◌, arith}
use Rattle.write_sizes.specs.Cut.{chunk_comes}
use Rattle.write_pieces.specs.Laws.{storing_room, storing_fits, storing_on, storing_ends}
use Rattle.write_pieces.proofs.store_pieces.Goals as goal

pub bounds-ids-i : goal.bounds-ids-i
bounds-ids-i c =
    let step = c.in-Some.ensures.steps in
    let comes = chunk_comes c.args.size c.requires.some_room c.loop-i.invariant.1 step.0.1 in
    rw step.1 (storing_room c.requires c.loop-i.invariant.0 comes).0

pub bounds-places-i : goal.bounds-places-i
bounds-places-i c =
    let step = c.in-Some.ensures.steps in
    let comes = chunk_comes c.args.size c.requires.some_room c.loop-i.invariant.1 step.0.1 in
    rw step.1 (storing_room c.requires c.loop-i.invariant.0 comes).1

pub store_piece-requires : goal.store_piece-requires
store_piece-requires c =
    let step = c.in-Some.ensures.steps in
    let comes = chunk_comes c.args.size c.requires.some_room c.loop-i.invariant.1 step.0.1 in
    (rw step.1 (storing_fits c.requires c.loop-i.invariant.0 comes), omega (arith, comes.long, c.requires.small))

pub loop-i-preserved : goal.loop-i-preserved
loop-i-preserved c =
    let step = c.in-Some.ensures.steps in
    let comes = chunk_comes c.args.size c.requires.some_room c.loop-i.invariant.1 step.0.1 in
    rw (c.store_piece.ensures, step.1, step.2) (storing_on c.requires c.loop-i.invariant.0 comes, step.0.0 ∙ c.loop-i.invariant.1)

pub returns : goal.returns
returns c = storing_ends c.requires c.loop-i.invariant.0 (omega (arith, c.in-None.ensures.steps.0.1.0))
