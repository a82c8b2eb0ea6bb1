-- What is written so far and the spaces still to come make the whole.
use Rattle.std.proofs.Common.{◌+◌, ◌-◌, replicate}
use Rattle.text_write.specs.Clip.{Toward}
use Rattle.text_write.proofs.indent.Given as goal

abbrev pub invariant-loop-i : goal.invariant-loop-i
invariant-loop-i l = Toward l.initial.text l.at (replicate l.n 32) l.text (l.at + l.i) (replicate (l.n - l.i) 32)
