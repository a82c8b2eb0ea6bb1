-- `nffs::nffs_report` meets its contract: the call took the list cut to what tells as much.
use mathlib.Core.Path.{◌∙◌}
use Rattle.calls.specs.Areas.{listed}
use Rattle.calls.specs.Report.{report_of}
use Rattle.area_structs.specs.Cut.{report_whole}
use Rattle.nffs_walk.proofs.Forward.{forwarded}
use Rattle.nffs.proofs.nffs_report.Goals as goal

pub returns : goal.returns
returns c =
    forwarded (report_of c.args.image.now) _ (listed c.args.areas.now) (c.from.ensures ∙ c.report_of.ensures) c.areas_of.ensures.1
    (report_whole c.args.image.now (listed c.args.areas.now))
