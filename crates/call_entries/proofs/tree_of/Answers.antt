use Rattle.std.proofs.lemmas.Result.{err_from_is_err_and}
use Rattle.area_list.specs.Numbers.{area_list}
use Rattle.call_tree.specs.Outcome.{refusal_passed}
use Rattle.call_entries.proofs.tree_of.Goals as goal

pub returns-in_err-m-clause-answer : goal.returns-in_err-m-clause-answer
returns-in_err-m-clause-answer c =
    let p = err_from_is_err_and c.from_residual.result c.from_residual.ensures.1 in
    rw (p.1, p.2) (refusal_passed c.args.image.now (area_list c.args.areas.numbers) c.in_err-m.field-0.0 c.in_err-m.ensures c.args.text.now).answer

pub returns-in_err-m-clause-bytes : goal.returns-in_err-m-clause-bytes
returns-in_err-m-clause-bytes c =
    (refusal_passed c.args.image.now (area_list c.args.areas.numbers) c.in_err-m.field-0.0 c.in_err-m.ensures c.args.text.now).buffer

pub returns-clause-answer : goal.returns-clause-answer
returns-clause-answer c = (c.tree_mounted.ensures (area_list c.args.areas.numbers) c.in_ok-m.ensures.holds).answer

pub returns-clause-bytes : goal.returns-clause-bytes
returns-clause-bytes c = (c.tree_mounted.ensures (area_list c.args.areas.numbers) c.in_ok-m.ensures.holds).buffer
