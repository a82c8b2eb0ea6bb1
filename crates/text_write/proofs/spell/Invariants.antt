-- The rest is still to be spelt, before the digits that were stored.
use Rattle.text_write.specs.Digits.{Spelling}
use Rattle.text_write.proofs.spell.Given as goal

abbrev pub invariant-loop-rest : goal.invariant-loop-rest
invariant-loop-rest l = Spelling l.n l.at l.rest l.digits

abbrev pub decreases-loop-rest : goal.decreases-loop-rest
decreases-loop-rest l = l.at
