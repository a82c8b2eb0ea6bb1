use Rattle.table_words.proofs.Word.{ones_total}
use Rattle.table_words.proofs.taken_in_word.Goals as goal

pub returns-clause-counted : goal.returns-clause-counted
returns-clause-counted c = ones_total 64 c.args.word c.ranges.word.fits
