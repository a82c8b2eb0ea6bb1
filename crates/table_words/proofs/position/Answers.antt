use Rattle.std.proofs.Common.{arith}
use Rattle.table_words.proofs.Steps.{search_hit, search_miss, search_end}
use Rattle.table_words.proofs.position.Goals as goal

pub returns-then-ids-i-clause-first : goal.returns-then-ids-i-clause-first
returns-then-ids-i-clause-first c = omega (arith, search_hit c.args.id c.loop-i.i c.args.ids.now (omega arith) c.if-ids-i.true)

pub loop-i-preserved : goal.loop-i-preserved
loop-i-preserved c = omega (arith, search_miss c.args.id c.loop-i.i c.args.ids.now (omega arith) c.if-ids-i.false)

pub returns-clause-first : goal.returns-clause-first
returns-clause-first c = omega (arith, search_end c.args.id c.loop-i.i c.args.ids.now (omega arith))
