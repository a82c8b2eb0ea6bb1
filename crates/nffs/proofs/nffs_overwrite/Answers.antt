-- `nffs::nffs_overwrite` meets its contract: the call took the list cut to what tells as much.
use mathlib.Core.Path.{◌∙◌}
use Rattle.calls.specs.Areas.{listed}
use Rattle.calls.specs.Overwrite.{overwrite_of, image_overwritten}
use Rattle.area_structs.specs.Cut.{overwrite_whole, overwritten_whole}
use Rattle.nffs_walk.proofs.Forward.{forwarded}
use Rattle.nffs.proofs.nffs_overwrite.Goals as goal

pub returns-clause-number : goal.returns-clause-number
returns-clause-number c =
    forwarded (λ l. overwrite_of c.args.image.now l c.args.base.now c.args.path.now c.args.offset c.args.text.now) _ (listed c.args.areas.now) (c.number.ensures ∙ c.overwrite_of.ensures.number) c.areas_of.ensures.1
    (overwrite_whole c.args.image.now (listed c.args.areas.now) c.args.base.now c.args.path.now c.args.offset c.args.text.now)

pub returns-clause-image : goal.returns-clause-image
returns-clause-image c =
    forwarded (λ l. image_overwritten c.args.image.now l c.args.base.now c.args.path.now c.args.offset c.args.text.now) _ (listed c.args.areas.now) c.overwrite_of.ensures.image c.areas_of.ensures.1
    (overwritten_whole c.args.image.now (listed c.args.areas.now) c.args.base.now c.args.path.now c.args.offset c.args.text.now)
