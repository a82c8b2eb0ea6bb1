-- The id is not among the first i.
use Rattle.std.proofs.Common.{◌-◌, length}
use Rattle.table_words.specs.Position.{Before}
use Rattle.table_words.proofs.eights_without.Given as goal

abbrev pub invariant-loop-i : goal.invariant-loop-i
invariant-loop-i l = Before l.id l.ids l.i

abbrev pub decreases-loop-i : goal.decreases-loop-i
decreases-loop-i l = length l.ids - l.i
