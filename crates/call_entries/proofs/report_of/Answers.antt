use Rattle.std.proofs.lemmas.Result.{err_from_is_err_and}
use Rattle.area_list.specs.Numbers.{area_list}
use Rattle.call_report.specs.Counts.{report_refused}
use Rattle.call_entries.proofs.report_of.Goals as goal

pub returns-in_err-m : goal.returns-in_err-m
returns-in_err-m c =
    let p = err_from_is_err_and c.from_residual.result c.from_residual.ensures.1 in
    rw (p.1, p.2) (report_refused c.args.image.now (area_list c.args.areas.numbers) c.in_err-m.field-0.0 c.in_err-m.ensures)

pub returns : goal.returns
returns c = c.report_mounted.ensures (area_list c.args.areas.numbers) c.in_ok-m.ensures.holds
