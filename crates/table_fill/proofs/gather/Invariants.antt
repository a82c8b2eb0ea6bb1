-- At i the tables hold the records at the first i places.
use Rattle.table_fill.specs.Parts.{Turn}
use Rattle.table_fill.proofs.gather.Given as goal

abbrev pub invariant-loop-i : goal.invariant-loop-i
invariant-loop-i l =
    Turn l.image l.places l.n l.initial.iwords l.initial.bwords l.initial.rows l.initial.twins l.iwords l.bwords l.ids l.rows l.twins l.agreed l.i
