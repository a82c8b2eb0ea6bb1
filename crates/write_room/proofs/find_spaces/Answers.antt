use Rattle.std.proofs.Common.{arith}
use Rattle.write_room.specs.Rows.{finding_begins, finding_clean, finding_damaged, finding_ends}
use Rattle.write_room.proofs.find_spaces.Goals as goal
use Rattle.write_room.proofs.find_spaces.Goals.{then-tables-i-eq0, else-tables-i-eq0}

pub loop-i-init : goal.loop-i-init
loop-i-init c = finding_begins c.args.tables.now c.args.files c.args.froms.now c.args.ends.now

pub loop-i-preserved : goal.loop-i-preserved
loop-i-preserved c = elim c.if-tables-i-eq0.branch [
  | then-tables-i-eq0 w ↦
      let few = c.loop-i.invariant.few in
      rw (w.froms-is, w.ends-is, w.k-is) (finding_clean c.loop-i.invariant c.loop-i-test.true (omega arith) (omega arith) w.if-tables-i-eq0.true)
  | else-tables-i-eq0 w ↦ rw (w.froms-is, w.ends-is, w.k-is) (finding_damaged c.loop-i.invariant c.loop-i-test.true w.if-tables-i-eq0.false)
]

pub returns-clause-are : goal.returns-clause-are
returns-clause-are c = finding_ends c.loop-i.invariant (omega (arith, c.loop-i-test.false))
