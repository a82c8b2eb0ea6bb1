-- `nffs::nffs_create` meets its contract: the call took the list cut to what tells as much.
use mathlib.Core.Path.{◌∙◌}
use Rattle.calls.specs.Areas.{listed}
use Rattle.calls.specs.Create.{create_of, image_created}
use Rattle.area_structs.specs.Cut.{create_whole, created_whole}
use Rattle.nffs_walk.proofs.Forward.{forwarded}
use Rattle.nffs.proofs.nffs_create.Goals as goal

pub returns-clause-answer : goal.returns-clause-answer
returns-clause-answer c =
    forwarded (λ l. create_of c.args.image.now l c.args.base.now c.args.path.now c.args.kind) _ (listed c.args.areas.now) (c.from.ensures ∙ c.create_of.ensures.answer) c.areas_of.ensures.1
    (create_whole c.args.image.now (listed c.args.areas.now) c.args.base.now c.args.path.now c.args.kind)

pub returns-clause-image : goal.returns-clause-image
returns-clause-image c =
    forwarded (λ l. image_created c.args.image.now l c.args.base.now c.args.path.now c.args.kind) _ (listed c.args.areas.now) c.create_of.ensures.image c.areas_of.ensures.1
    (created_whole c.args.image.now (listed c.args.areas.now) c.args.base.now c.args.path.now c.args.kind)
