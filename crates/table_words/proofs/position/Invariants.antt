use Rattle.std.proofs.Common.{◌≡◌, ◌+◌, drop}
use Rattle.table_words.specs.Position.{position_of}
use Rattle.table_words.proofs.position.Given as goal

abbrev pub invariant-loop-i : goal.invariant-loop-i
invariant-loop-i l = position_of l.id l.ids ≡ l.i + position_of l.id (drop l.i l.ids)
