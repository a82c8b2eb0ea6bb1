use Rattle.std.proofs.Common.{◌∙◌}
use Rattle.std.proofs.lemmas.Result.{err_from_is_err_and}
use Rattle.program_input.specs.Cut.{reports, reports_none}
use Rattle.program_input.proofs.report_input.Goals as goal

pub returns-in_err-cut : goal.returns-in_err-cut
returns-in_err-cut c =
    let p = err_from_is_err_and c.from_residual.result c.from_residual.ensures.1 in
    rw (p.1, p.2) (reports_none c.args.input.now c.in_err-cut.field-0.0 c.in_err-cut.ensures)

pub returns : goal.returns
returns c = c.report_of.ensures ∙ reports c.args.input.now c.in_ok-cut.field-0 c.in_ok-cut.ensures
