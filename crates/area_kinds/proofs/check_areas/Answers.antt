use Rattle.std.proofs.Common.{◌*◌, ◌+◌, ◌≤◌, length, length-take, ap₂, arith}
use Rattle.std.proofs.lemmas.Result.{err_from_is_err_and}
use Rattle.calls.specs.Areas.{most_areas}
use Rattle.table_rows.specs.Parts.{lent, lent_front, both}
use Rattle.area_list.specs.Described.{described}
use Rattle.area_list.specs.Description.{listed_good, description_good}
use Rattle.area_list.specs.Good.{Good}
use Rattle.area_list.specs.Numbers.{area_list}
use Rattle.area_pass.specs.Rows.{spans_at}
use Rattle.area_kinds.specs.Kinds.{files_good}
use Rattle.area_kinds.specs.Checks.{bad_checked, checked_refused, checked_passes}
use Rattle.area_kinds.proofs.check_areas.Goals as goal

pub returns-then-n-eq0 : goal.returns-then-n-eq0
returns-then-n-eq0 c = bad_checked _ _ _ (c.count_good_areas-n.ensures.refused c.if-n-eq0.true)

pub sort_areas-files-requires : goal.sort_areas-files-requires
sort_areas-files-requires c =
    let k = c.count_good_areas-n.result in
    record {
      good = listed_good c.args.image.now c.args.areas.now k c.count_good_areas-n.ensures c.if-n-eq0.false;
      few = omega (arith, length-take (k * 2) c.args.areas.now, c.count_good_areas-n.ensures.few);
      long = c.requires;
    }

-- the list is good, and its areas are sorted
pub invariant_of-areas : goal.invariant_of-areas
invariant_of-areas c =
    let n = c.sort_areas-files.result.files in
    let rows = c.sort_areas-files.new.rows in
    let g = c.count_good_areas-n.ensures in
    let sorted = rw (g.is c.if-n-eq0.false) at c.sort_areas-files.ensures in
    let long : spans_at + most_areas ≤ length rows = omega (arith, c.sort_areas-files.auto.rows, c.requires) in
    record {
      good = both (Good (length c.args.image.now)) (lent_front n rows) (lent spans_at n rows)
          (files_good c.args.image.now (area_list c.args.areas.now) c.sort_areas-files.result rows sorted long (description_good c.args.image.now (area_list c.args.areas.now) (g.passed c.if-n-eq0.false)).each);
    }

pub returns-in_err-scratch : goal.returns-in_err-scratch
returns-in_err-scratch c =
    let n = c.sort_areas-files.result.files in
    let rows = c.sort_areas-files.new.rows in
    let g = c.count_good_areas-n.ensures in
    let sorted = rw (g.is c.if-n-eq0.false) at c.sort_areas-files.ensures in
    let answer = rw (ap₂ described (lent_front n rows) (lent spans_at n rows)) at c.check_kinds.ensures in
    let p = err_from_is_err_and c.from_residual.result c.from_residual.ensures.1 in
    rw (p.1, p.2) (checked_refused _ _ (g.passed c.if-n-eq0.false) c.sort_areas-files.result rows sorted c.check_kinds.result answer c.in_err-scratch.field-0.0 c.in_err-scratch.was)

pub returns : goal.returns
returns c =
    let n = c.sort_areas-files.result.files in
    let rows = c.sort_areas-files.new.rows in
    let g = c.count_good_areas-n.ensures in
    let sorted = rw (g.is c.if-n-eq0.false) at c.sort_areas-files.ensures in
    let answer = rw (ap₂ described (lent_front n rows) (lent spans_at n rows)) at c.check_kinds.ensures in
    checked_passes _ _ (g.passed c.if-n-eq0.false) c.sort_areas-files.result rows sorted c.check_kinds.result answer c.in_ok-scratch.scratch c.in_ok-scratch.was
