use Rattle.std.proofs.Common.{◌≡◌, ◌/◌, length, arith}
use Rattle.area_list.specs.Listing.{counting_begins, counting_step, counting_stops, counting_ends}
use Rattle.area_list.proofs.count_areas.Goals as goal

pub loop-n-init : goal.loop-n-init
loop-n-init c = counting_begins _

pub returns-then-area_at-eq0 : goal.returns-then-area_at-eq0
returns-then-area_at-eq0 c = counting_stops _ _ c.loop-n.invariant (omega arith) (rw c.area_at.ensures at c.if-area_at-eq0.true)

pub loop-n-preserved : goal.loop-n-preserved
loop-n-preserved c = counting_step _ _ c.loop-n.invariant (omega arith) (rw c.area_at.ensures at c.if-area_at-eq0.false)

pub returns : goal.returns
returns c =
    let n : length c.args.areas.now / 2 ≡ c.loop-n.n = omega arith in
    rw n (counting_ends _ _ c.loop-n.invariant (omega arith))
