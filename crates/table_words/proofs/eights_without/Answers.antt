use Rattle.std.proofs.Common.{◌∙◌, ◌||◌, sym, ap₂}
use Rattle.table_words.proofs.Steps.{before_eight}
use Rattle.table_words.proofs.eights_without.Goals as goal

pub loop-i-preserved : goal.loop-i-preserved
loop-i-preserved c =
    before_eight c.args.id c.args.ids.now c.loop-i.i c.loop-i-test.true
    (ap₂ ◌||◌ (sym c.in_four.ensures) (sym c.in_four-in-loop-i.ensures) ∙ c.if-in_four.false) c.loop-i.invariant
