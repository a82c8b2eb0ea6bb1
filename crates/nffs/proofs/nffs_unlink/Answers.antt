-- `nffs::nffs_unlink` meets its contract: the call took the list cut to what tells as much.
use mathlib.Core.Path.{◌∙◌}
use Rattle.calls.specs.Areas.{listed}
use Rattle.calls.specs.Unlink.{unlink_of, image_unlinked}
use Rattle.area_structs.specs.Cut.{unlink_whole, unlinked_whole}
use Rattle.nffs_walk.proofs.Forward.{forwarded}
use Rattle.nffs.proofs.nffs_unlink.Goals as goal

pub returns-clause-number : goal.returns-clause-number
returns-clause-number c =
    forwarded (λ l. unlink_of c.args.image.now l c.args.base.now c.args.path.now) _ (listed c.args.areas.now) (c.number.ensures ∙ c.unlink_of.ensures.number) c.areas_of.ensures.1
    (unlink_whole c.args.image.now (listed c.args.areas.now) c.args.base.now c.args.path.now)

pub returns-clause-image : goal.returns-clause-image
returns-clause-image c =
    forwarded (λ l. image_unlinked c.args.image.now l c.args.base.now c.args.path.now) _ (listed c.args.areas.now) c.unlink_of.ensures.image c.areas_of.ensures.1
    (unlinked_whole c.args.image.now (listed c.args.areas.now) c.args.base.now c.args.path.now)
