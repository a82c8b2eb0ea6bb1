use Rattle.call_format.specs.Areas.{Writing}
use Rattle.call_format.proofs.write_areas.Given as goal

abbrev pub invariant-loop-i : goal.invariant-loop-i
invariant-loop-i l = Writing l.initial.image l.pairs l.most l.image l.placed l.i
