use Rattle.tree_show.specs.Show.{wrote_line}
use Rattle.tree_show.proofs.show_line.Goals as goal

pub returns-clause-told : goal.returns-clause-told
returns-clause-told c = λ v rows counts. wrote_line _ _ c.indent-start.ensures (c.show_words-end.ensures.told v rows counts) c.push.ensures
