-- `nffs::nffs_open` meets its contract: the call took the list cut to what tells as much.
use Rattle.calls.specs.Areas.{listed}
use Rattle.calls.specs.Lookup.{open_of}
use Rattle.area_structs.specs.Cut.{open_whole}
use Rattle.nffs_walk.proofs.Forward.{forwarded}
use Rattle.nffs.proofs.nffs_open.Goals as goal

pub returns : goal.returns
returns c =
    forwarded (λ l. open_of c.args.image.now l c.args.base.now c.args.path.now) _ (listed c.args.areas.now) c.open_of.ensures c.areas_of.ensures.1
    (open_whole c.args.image.now (listed c.args.areas.now) c.args.base.now c.args.path.now)
