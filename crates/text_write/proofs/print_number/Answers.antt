-- The digits that were spelt are printed as they are.
use Rattle.std.proofs.Common.{◌-◌, drop, ◌∙◌, take_all, length-drop, arith}
use Rattle.text_write.specs.Digits.{printed_decimal}
use Rattle.text_write.proofs.print_number.Goals as goal

pub returns : goal.returns
returns c =
    let d = c.spell-first.new.digits in
    let k = c.spell-first.result in
    let lent = take_all (10 - k) (drop k d) (omega (arith, length-drop k d, c.spell-first.array_long)) ∙ c.spell-first.ensures.spelt in
    rw (lent, printed_decimal c.args.n) at c.print.ensures
