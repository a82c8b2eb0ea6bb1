-- The first places listed are the copies among the places that have come.
use Rattle.collect_copies.specs.Copied.{tables_of}
use Rattle.collect_copies.specs.Loops.{Choosing}
use Rattle.collect_copies.proofs.list_copies.Given as goal

abbrev pub invariant-loop-place : goal.invariant-loop-place
invariant-loop-place l =
    Choosing l.image l.offset l.span l.places (tables_of l.inodes l.blocks l.tables) l.fn.copies l.copies l.k l.place-index
