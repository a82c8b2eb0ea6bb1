use Rattle.std.proofs.Common.{refl}
use Rattle.table_words.specs.Position.{in_four}
use Rattle.table_words.proofs.in_four.Goals as goal

pub returns : goal.returns
unfolding in_four
returns c = refl
