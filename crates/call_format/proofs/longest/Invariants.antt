use Rattle.call_format.specs.Areas.{Growing}
use Rattle.call_format.proofs.longest.Given as goal

abbrev pub invariant-loop-i : goal.invariant-loop-i
invariant-loop-i l = Growing l.pairs l.most l.i
