-- `nffs::nffs_format` meets its contract: the call took the list cut to what tells as much.
use mathlib.Core.Path.{◌∙◌}
use Rattle.calls.specs.Areas.{listed}
use Rattle.calls.specs.Format.{format_number, image_formatted}
use Rattle.area_structs.specs.Cut.{format_whole, formatted_whole}
use Rattle.nffs_walk.proofs.Forward.{forwarded}
use Rattle.nffs.proofs.nffs_format.Goals as goal

pub returns-clause-number : goal.returns-clause-number
returns-clause-number c =
    forwarded (format_number c.args.image.now) _ (listed c.args.areas.now) (c.number.ensures ∙ c.format_of.ensures.number) c.areas_of.ensures.1
    (format_whole c.args.image.now (listed c.args.areas.now))

pub returns-clause-image : goal.returns-clause-image
returns-clause-image c =
    forwarded (image_formatted c.args.image.now) _ (listed c.args.areas.now) c.format_of.ensures.image c.areas_of.ensures.1
    (formatted_whole c.args.image.now (listed c.args.areas.now))
