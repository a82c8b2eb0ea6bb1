-- `nffs::nffs_lookup` meets its contract: the call took the list cut to what tells as much.
use Rattle.calls.specs.Areas.{listed}
use Rattle.calls.specs.Lookup.{lookup_of}
use Rattle.area_structs.specs.Cut.{lookup_whole}
use Rattle.nffs_walk.proofs.Forward.{forwarded}
use Rattle.nffs.proofs.nffs_lookup.Goals as goal

pub returns : goal.returns
returns c =
    forwarded (λ l. lookup_of c.args.image.now l c.args.base.now c.args.path.now) _ (listed c.args.areas.now) c.lookup_of.ensures c.areas_of.ensures.1
    (lookup_whole c.args.image.now (listed c.args.areas.now) c.args.base.now c.args.path.now)
