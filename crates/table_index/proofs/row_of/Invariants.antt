-- No row behind k has the id.
use Rattle.table_index.specs.Rows.{RowWalk}
use Rattle.table_index.proofs.row_of.Given as goal

abbrev pub invariant-loop-k : goal.invariant-loop-k
invariant-loop-k l = RowWalk l.ids l.id l.n l.k

abbrev pub decreases-loop-k : goal.decreases-loop-k
decreases-loop-k l = l.k
