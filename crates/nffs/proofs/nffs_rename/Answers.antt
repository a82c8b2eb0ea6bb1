-- `nffs::nffs_rename` meets its contract: the call took the list cut to what tells as much.
use mathlib.Core.Path.{◌∙◌}
use Rattle.calls.specs.Areas.{listed}
use Rattle.calls.specs.Rename.{rename_of, image_renamed}
use Rattle.area_structs.specs.Cut.{rename_whole, renamed_whole}
use Rattle.nffs_walk.proofs.Forward.{forwarded}
use Rattle.nffs.proofs.nffs_rename.Goals as goal

pub returns-clause-number : goal.returns-clause-number
returns-clause-number c =
    forwarded (λ l. rename_of c.args.image.now l c.args.base.now c.args.old.now c.args.new.now) _ (listed c.args.areas.now) (c.number.ensures ∙ c.rename_of.ensures.number) c.areas_of.ensures.1
    (rename_whole c.args.image.now (listed c.args.areas.now) c.args.base.now c.args.old.now c.args.new.now)

pub returns-clause-image : goal.returns-clause-image
returns-clause-image c =
    forwarded (λ l. image_renamed c.args.image.now l c.args.base.now c.args.old.now c.args.new.now) _ (listed c.args.areas.now) c.rename_of.ensures.image c.areas_of.ensures.1
    (renamed_whole c.args.image.now (listed c.args.areas.now) c.args.base.now c.args.old.now c.args.new.now)
