use Rattle.std.proofs.Common.{arith}
use Rattle.text_write.specs.Clip.{wrote_then}
use Rattle.text_write.specs.Digits.{short_decimal}
use Rattle.tree_show.specs.Show.{size_word_lem}
use Rattle.tree_show.proofs.show_size.Goals as goal

pub returns-in_default-clause-told : goal.returns-in_default-clause-told
returns-in_default-clause-told c = λ v rows. rw (size_word_lem _ _ _ (c.in_default.ensures.told v rows)) (wrote_then c.push-next.ensures c.print.ensures)

pub returns-clause-within : goal.returns-clause-within
returns-clause-within c =
    omega (arith, c.print_number.ensures.goes_on, c.push-next.ensures.goes_on, short_decimal c.in-Some.size (omega (arith, c.in-Some.ensures.small)))

pub returns-clause-told : goal.returns-clause-told
returns-clause-told c = λ v rows. rw (size_word_lem _ _ _ (c.in-Some.ensures.told v rows)) (wrote_then c.push-next.ensures c.print_number.ensures)
