use Rattle.table_words.proofs.Word.{trailing_not}
use Rattle.table_words.proofs.first_free_in_word.Goals as goal

pub returns-clause-lowest : goal.returns-clause-lowest
returns-clause-lowest c = trailing_not 64 c.args.word c.ranges.word.fits
