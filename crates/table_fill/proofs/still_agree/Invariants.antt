-- No record behind k is a twin of p.
use Rattle.table_fill.specs.Twins.{TwinWalk}
use Rattle.table_fill.proofs.still_agree.Given as goal

abbrev pub invariant-loop-k : goal.invariant-loop-k
invariant-loop-k l = TwinWalk l.image l.places l.p l.n l.k

abbrev pub decreases-loop-k : goal.decreases-loop-k
decreases-loop-k l = l.k
