-- `nffs::nffs_area_report` meets its contract: the call took the list cut to what tells as much.
use mathlib.Core.Path.{◌∙◌}
use Rattle.calls.specs.Areas.{listed}
use Rattle.calls.specs.AreaReport.{area_report_of}
use Rattle.area_structs.specs.Cut.{area_whole}
use Rattle.nffs_walk.proofs.Forward.{forwarded}
use Rattle.nffs.proofs.nffs_area_report.Goals as goal

pub returns : goal.returns
returns c =
    forwarded (λ l. area_report_of c.args.image.now l c.args.index c.args.stretch) _ (listed c.args.areas.now) (c.from.ensures ∙ c.area_report_of.ensures) c.areas_of.ensures.1
    (area_whole c.args.image.now (listed c.args.areas.now) c.args.index c.args.stretch)
