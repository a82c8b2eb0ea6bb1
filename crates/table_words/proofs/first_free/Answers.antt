use Rattle.std.proofs.Common.{ap, arith}
use Rattle.table_words.specs.Position.{position_of}
use Rattle.table_words.specs.Occupancy.{first_zero}
use Rattle.table_words.proofs.Steps.{word_free, word_full, words_end}
use Rattle.table_words.proofs.first_free.Goals as goal

pub returns-then-place-lt-BITS-clause-lowest : goal.returns-then-place-lt-BITS-clause-lowest
returns-then-place-lt-BITS-clause-lowest c = omega (arith, word_free c.loop-i.i c.args.words.now (omega arith) (omega arith))

pub loop-i-preserved : goal.loop-i-preserved
loop-i-preserved c = omega (arith, word_full c.loop-i.i c.args.words.now (omega arith) (omega arith))

pub returns-clause-lowest : goal.returns-clause-lowest
unfolding position_of
returns-clause-lowest c = omega (arith, ap first_zero (words_end c.loop-i.i c.args.words.now (omega arith)))
