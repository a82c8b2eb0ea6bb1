-- One more digit is stored at each turn, and the first one last.
use Rattle.std.proofs.Common.{rules, arith}
use Rattle.text_write.specs.Digits.{spelling_begins, spelling_step, spelling_ends}
use Rattle.text_write.proofs.spell.Goals as goal

pub loop-rest-init : goal.loop-rest-init
loop-rest-init c = spelling_begins _ _ (omega (arith, c.ranges.n.fits)) (search rules)

pub loop-rest-preserved : goal.loop-rest-preserved
loop-rest-preserved c = spelling_step _ _ _ _ c.loop-rest.invariant c.loop-rest-test.true

pub returns-clause-spelt : goal.returns-clause-spelt
returns-clause-spelt c = spelling_ends _ _ _ _ c.loop-rest.invariant c.loop-rest-test.false
