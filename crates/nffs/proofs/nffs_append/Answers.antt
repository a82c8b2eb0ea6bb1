-- `nffs::nffs_append` meets its contract: the call took the list cut to what tells as much.
use mathlib.Core.Path.{◌∙◌}
use Rattle.calls.specs.Areas.{listed}
use Rattle.calls.specs.Append.{append_of, image_appended}
use Rattle.area_structs.specs.Cut.{append_whole, appended_whole}
use Rattle.nffs_walk.proofs.Forward.{forwarded}
use Rattle.nffs.proofs.nffs_append.Goals as goal

pub returns-clause-number : goal.returns-clause-number
returns-clause-number c =
    forwarded (λ l. append_of c.args.image.now l c.args.base.now c.args.path.now c.args.text.now) _ (listed c.args.areas.now) (c.number.ensures ∙ c.append_of.ensures.number) c.areas_of.ensures.1
    (append_whole c.args.image.now (listed c.args.areas.now) c.args.base.now c.args.path.now c.args.text.now)

pub returns-clause-image : goal.returns-clause-image
returns-clause-image c =
    forwarded (λ l. image_appended c.args.image.now l c.args.base.now c.args.path.now c.args.text.now) _ (listed c.args.areas.now) c.append_of.ensures.image c.areas_of.ensures.1
    (appended_whole c.args.image.now (listed c.args.areas.now) c.args.base.now c.args.path.now c.args.text.now)
