-- The pieces that have come have their places; what is left of the text are the others.
use Rattle.std.proofs.Common.{◌≡◌}
use Rattle.write_pieces.specs.Laws.{Placing}
use Rattle.write_pieces.proofs.take_places.Given as goal

abbrev pub invariant-loop-i : goal.invariant-loop-i
invariant-loop-i l =
    Placing l.size l.text l.ends l.fn.froms l.fn.places l.froms l.places l.i-iterator.iter.rest.now l.i-iterator.count
    × (l.i-iterator.iter.size ≡ l.size)
