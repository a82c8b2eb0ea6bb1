use Rattle.std.proofs.Common.{◌≡◌, max, arith, rules}
use Rattle.call_format.specs.Areas.{growing_on, growing_ends}
use Rattle.call_format.proofs.longest.Goals as goal

pub loop-i-preserved : goal.loop-i-preserved
loop-i-preserved c =
    let longer : c.max-most.result ≡ max c.loop-i.most c.area_at.result.length = search rules in
    rw (longer, c.area_at.ensures) (growing_on _ _ _ c.loop-i.invariant (omega arith))

pub returns : goal.returns
returns c = growing_ends _ _ _ c.loop-i.invariant (omega arith)
