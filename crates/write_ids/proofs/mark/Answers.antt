use Rattle.std.proofs.Common.{◌-◌, arith}
use Rattle.write_ids.specs.Laws.{marks_taken, marks_below, marks_above}
use Rattle.write_ids.proofs.mark.Goals as goal

pub returns-then-id-first : goal.returns-then-id-first
returns-then-id-first c = λ names marks. marks_below _ names _ marks _ c.if-id-first.true

pub returns-then-k-words : goal.returns-then-k-words
returns-then-k-words c = λ names marks.
    marks_taken c.args.first names c.args.words.now marks c.args.id c.occupy.new.words (c.args.id - c.args.first)
    (omega (arith, c.if-id-first.false)) c.if-k-words.true c.occupy.auto.words c.occupy.ensures

pub returns-else-k-words : goal.returns-else-k-words
returns-else-k-words c = λ names marks.
    marks_above c.args.first names c.args.words.now marks c.args.id (omega (arith, c.if-id-first.false, c.if-k-words.false))
