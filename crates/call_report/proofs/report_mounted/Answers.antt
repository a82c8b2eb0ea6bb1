use Rattle.std.proofs.Common.{length, arith}
use Rattle.call_report.specs.Counts.{live_few, report_is}
use Rattle.call_report.proofs.report_mounted.Goals as goal

pub overflow_cast-result-2 : goal.overflow_cast-result-2
overflow_cast-result-2 c =
    let r = c.inode_rows.result in
    omega (arith, c.live_count-live.ensures, live_few r.image.now (length r.ids.now) r.ids.now r.spots.now, c.inode_rows.ensures.number, c.requires.inodes_few)

pub returns : goal.returns
returns c =
    let e = c.inode_rows.ensures in
    let live = rw (e.image, e.ids, e.spots) at c.live_count-live.ensures in
    λ ds h. report_is c.requires h c.live_count-live.result live
