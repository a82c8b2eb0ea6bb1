-- The free space of the rows that have come stands in front.
use Rattle.write_room.specs.Rows.{Finding}
use Rattle.write_room.proofs.find_spaces.Given as goal

abbrev pub invariant-loop-i : goal.invariant-loop-i
invariant-loop-i l = Finding l.tables l.files l.froms l.ends l.k l.i
