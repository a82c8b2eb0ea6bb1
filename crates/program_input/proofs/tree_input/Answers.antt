use Rattle.std.proofs.Common.{ap, ◌∙◌}
use Rattle.std.proofs.lemmas.Result.{err_from_is_err_and}
use Rattle.calls.specs.Tree.{tree_answer, buffer_with}
use Rattle.program_input.specs.Cut.{lists, lists_none}
use Rattle.program_input.proofs.tree_input.Goals as goal

pub returns-in_err-cut-clause-answer : goal.returns-in_err-cut-clause-answer
unfolding tree_answer
returns-in_err-cut-clause-answer c =
    let p = err_from_is_err_and c.from_residual.result c.from_residual.ensures.1 in
    rw (p.1, p.2) (ap tree_answer (lists_none c.args.input.now c.in_err-cut.field-0.0 c.in_err-cut.ensures))

pub returns-in_err-cut-clause-bytes : goal.returns-in_err-cut-clause-bytes
unfolding buffer_with
returns-in_err-cut-clause-bytes c = ap (buffer_with c.args.text.now) (lists_none c.args.input.now c.in_err-cut.field-0.0 c.in_err-cut.ensures)

pub returns-clause-answer : goal.returns-clause-answer
returns-clause-answer c = c.tree_of.ensures.answer ∙ ap tree_answer (lists c.args.input.now c.in_ok-cut.field-0 c.in_ok-cut.ensures)

pub returns-clause-bytes : goal.returns-clause-bytes
returns-clause-bytes c = c.tree_of.ensures.bytes ∙ ap (buffer_with c.args.text.now) (lists c.args.input.now c.in_ok-cut.field-0 c.in_ok-cut.ensures)
