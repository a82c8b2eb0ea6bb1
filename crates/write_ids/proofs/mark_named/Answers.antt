use Rattle.std.proofs.Common.{arith}
use Rattle.write_ids.specs.Laws.{marking_begins, marking_on, marking_ends}
use Rattle.write_ids.proofs.mark_named.Goals as goal

pub loop-p-init : goal.loop-p-init
loop-p-init c = marking_begins c.args.image.now c.args.places.now c.args.first c.args.words.now c.requires.words_value

pub loop-p-preserved : goal.loop-p-preserved
loop-p-preserved c =
    marking_on c.args.image.now c.args.places.now c.args.first c.loop-p.words c.loop-p.p-index c.loop-p.invariant c.mark_record.new.words c.loop-p-test.true
    c.mark_record.auto.words (rw c.from.ensures at c.mark_record.ensures)

pub returns : goal.returns
returns c = marking_ends c.args.image.now c.args.places.now c.args.first c.loop-p.words c.loop-p.p-index c.loop-p.invariant (omega (arith, c.loop-p-test.false))
