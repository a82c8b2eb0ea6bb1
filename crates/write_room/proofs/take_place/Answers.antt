use Rattle.write_room.specs.First.{none_fits, one_fits}
use Rattle.write_room.proofs.take_place.Goals as goal

pub returns-in_err-i : goal.returns-in_err-i
returns-in_err-i c = rw c.from_residual.ensures (none_fits c.args.n c.args.froms.now c.args.ends.now c.requires.0 c.in_err-i.ensures)

pub returns : goal.returns
returns c =
    let f = c.in_ok-i.ensures in
    one_fits c.args.n c.args.froms.now c.args.ends.now c.in_ok-i.i c.requires.0 f.0 f.1 f.2
