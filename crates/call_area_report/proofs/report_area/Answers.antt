use Rattle.std.proofs.Common.{◌≡◌, ◌-◌, arith}
use Rattle.call_area_report.specs.Report.{area_refused, area_good, area_fits, fits_long, records_counted, area_report_is}
use Rattle.call_area_report.proofs.report_area.Goals as goal

pub returns-then-n-i : goal.returns-then-n-i
returns-then-n-i c = area_refused _ _ _ _ c.count_good_areas-n.ensures c.if-n-i.true _

pub header_of-header-requires : goal.header_of-header-requires
header_of-header-requires c = rw c.area_at-area.ensures (area_good _ _ _ _ c.count_good_areas-n.ensures c.if-n-i.false)

pub slice_bounds-list_area-end : goal.slice_bounds-list_area-end
slice_bounds-list_area-end c =
    let f = rw (← c.area_at-area.ensures) at (area_fits _ _ _ _ c.count_good_areas-n.ensures c.if-n-i.false) in
    omega (arith, f.inside)

-- the bytes read are the area's
pub list_area-pass-requires : goal.list_area-pass-requires
list_area-pass-requires c =
    let a = c.area_at-area.result in
    let f = rw (← c.area_at-area.ensures) at (area_fits _ _ _ _ c.count_good_areas-n.ensures c.if-n-i.false) in
    let l = fits_long c.args.image.now a f in
    let n : c.area_end-end.result - a.offset ≡ a.length = omega arith in
    rw n (record { header = omega (arith, f.long, l); inside = omega (arith, f.short, l); room = omega (arith, f.short, l) })

pub returns : goal.returns
returns c =
    let a = c.area_at-area.result in
    let f = rw (← c.area_at-area.ensures) at (area_fits _ _ _ _ c.count_good_areas-n.ensures c.if-n-i.false) in
    let l = fits_long c.args.image.now a f in
    let n : c.area_end-end.result - a.offset ≡ a.length = omega arith in
    let listed = rw n at c.list_area-pass.ensures.listed in
    let reads = rw n at c.list_area-pass.ensures.read in
    let counted = (records_counted _ _ _ _ (omega (arith, f.short, l)) c.requires c.list_area-pass.auto.places listed).0 in
    area_report_is _ _ _ _ c.count_good_areas-n.ensures c.if-n-i.false _ c.header_of-header.result a c.area_at-area.ensures c.header_of-header.ensures
    c.list_area-pass.result.count counted c.list_area-pass.result.damage c.list_area-pass.result.free reads
