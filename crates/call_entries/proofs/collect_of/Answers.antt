use Rattle.std.proofs.lemmas.Result.{err_from_is_err_and}
use Rattle.area_list.specs.Numbers.{area_list}
use Rattle.call_entries.specs.Calls.{collect_refused}
use Rattle.call_entries.proofs.collect_of.Goals as goal

pub returns-in_err-m-clause-number : goal.returns-in_err-m-clause-number
returns-in_err-m-clause-number c =
    let p = err_from_is_err_and c.from_residual.result c.from_residual.ensures.1 in
    rw (p.1, p.2) (collect_refused c.args.image.now (area_list c.args.areas.numbers) c.in_err-m.field-0.0 c.in_err-m.ensures).0

pub returns-in_err-m-clause-image : goal.returns-in_err-m-clause-image
returns-in_err-m-clause-image c =
    (collect_refused c.args.image.now (area_list c.args.areas.numbers) c.in_err-m.field-0.0 c.in_err-m.ensures).1

pub returns-clause-number : goal.returns-clause-number
returns-clause-number c = (c.collect_mounted.ensures (area_list c.args.areas.numbers) c.in_ok-m.ensures.holds c.in_ok-m.ensures.holds_places).0

pub returns-clause-image : goal.returns-clause-image
returns-clause-image c = (c.collect_mounted.ensures (area_list c.args.areas.numbers) c.in_ok-m.ensures.holds c.in_ok-m.ensures.holds_places).1
