-- The pieces that have come are stored; what is left of the text are the others.
use Rattle.std.proofs.Common.{◌≡◌}
use Rattle.write_pieces.specs.Laws.{Storing}
use Rattle.write_pieces.proofs.store_pieces.Given as goal

abbrev pub invariant-loop-i : goal.invariant-loop-i
invariant-loop-i l =
    Storing l.size l.text l.ids l.places l.file l.last l.fn.image l.image l.previous l.i-iterator.iter.rest.now l.i-iterator.count
    × (l.i-iterator.iter.size ≡ l.size)
