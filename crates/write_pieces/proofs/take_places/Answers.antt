use Rattle.std.proofs.Common.{◌∙◌, arith}
use Rattle.write_sizes.specs.Cut.{chunk_comes}
use Rattle.write_pieces.specs.Laws.{placing_room, placing_fails, placing_on, placing_ends}
use Rattle.write_pieces.proofs.take_places.Goals as goal

pub returns-in_default : goal.returns-in_default
returns-in_default c =
    let step = c.in-Some.ensures.steps in
    let comes = chunk_comes c.args.size c.requires.froms_len.1 c.loop-i.invariant.1 step.0.1 in
    placing_fails c.requires.froms_len.1 c.loop-i.invariant.0 comes c.take_place.result c.take_place.new.froms c.take_place.ensures c.in_default.is

pub bounds-places-i : goal.bounds-places-i
bounds-places-i c =
    let step = c.in-Some.ensures.steps in
    let comes = chunk_comes c.args.size c.requires.froms_len.1 c.loop-i.invariant.1 step.0.1 in
    rw step.1 (placing_room c.requires.froms_len.1 c.loop-i.invariant.0 comes)

pub loop-i-preserved : goal.loop-i-preserved
loop-i-preserved c =
    let step = c.in-Some.ensures.steps in
    let comes = chunk_comes c.args.size c.requires.froms_len.1 c.loop-i.invariant.1 step.0.1 in
    let on = placing_on c.requires.froms_len.1 c.loop-i.invariant.0 comes c.take_place.result c.take_place.new.froms c.take_place.ensures c.take_place.auto.froms c.in-Some-take_place.at c.in-Some-take_place.is in
    rw (step.1, step.2) (on, step.0.0 ∙ c.loop-i.invariant.1)

pub returns : goal.returns
returns c = placing_ends c.requires.froms_len.1 c.loop-i.invariant.0 (omega (arith, c.in-None.ensures.steps.0.1.0))
