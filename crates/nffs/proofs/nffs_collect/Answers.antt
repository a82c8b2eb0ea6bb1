-- `nffs::nffs_collect` meets its contract: the call took the list cut to what tells as much.
use mathlib.Core.Path.{◌∙◌}
use Rattle.calls.specs.Areas.{listed}
use Rattle.calls.specs.Collect.{collect_of, image_collected}
use Rattle.area_structs.specs.Cut.{collect_whole, collected_whole}
use Rattle.nffs_walk.proofs.Forward.{forwarded}
use Rattle.nffs.proofs.nffs_collect.Goals as goal

pub returns-clause-number : goal.returns-clause-number
returns-clause-number c =
    forwarded (collect_of c.args.image.now) _ (listed c.args.areas.now) (c.number.ensures ∙ c.collect_of.ensures.number) c.areas_of.ensures.1
    (collect_whole c.args.image.now (listed c.args.areas.now))

pub returns-clause-image : goal.returns-clause-image
returns-clause-image c =
    forwarded (image_collected c.args.image.now) _ (listed c.args.areas.now) c.collect_of.ensures.image c.areas_of.ensures.1
    (collected_whole c.args.image.now (listed c.args.areas.now))
