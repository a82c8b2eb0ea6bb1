use Rattle.std.proofs.lemmas.Result.{err_from_is_err_and}
use Rattle.area_list.specs.Numbers.{area_list}
use Rattle.call_entries.specs.Calls.{path_refused}
use Rattle.call_entries.proofs.find_of.Goals as goal

pub returns-in_err-m : goal.returns-in_err-m
returns-in_err-m c =
    let p = err_from_is_err_and c.from_residual.result c.from_residual.ensures.1 in
    rw (p.1, p.2) (path_refused c.args.image.now (area_list c.args.areas.numbers) c.in_err-m.field-0.0 c.in_err-m.ensures c.args.base.now c.args.path.now)

pub returns : goal.returns
returns c = c.find_path.ensures (area_list c.args.areas.numbers) c.in_ok-m.ensures.holds
