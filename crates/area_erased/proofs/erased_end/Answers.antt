use Rattle.std.proofs.Common.{◌≡◌, ◌+◌, ◌-◌, subst, arith}
use Rattle.area_erased.specs.Erased.{ErasedFrom, erased_byte, erased_stops, erased_whole}
use Rattle.area_erased.proofs.erased_end.Goals as goal

-- from one behind the byte of this turn on
pub returns-then-s-i : goal.returns-then-s-i
returns-then-s-i c =
    let x : c.loop-i.i ≡ c.loop-i.i - 1 + 1 = omega arith in
    erased_stops c.args.s.now (c.loop-i.i - 1) (subst (ErasedFrom c.args.s.now) x c.loop-i.invariant) c.if-s-i.true

pub loop-i-preserved : goal.loop-i-preserved
loop-i-preserved c =
    let x : c.loop-i.i ≡ c.loop-i.i - 1 + 1 = omega arith in
    erased_byte c.args.s.now (c.loop-i.i - 1) (subst (ErasedFrom c.args.s.now) x c.loop-i.invariant) c.if-s-i.false

pub returns : goal.returns
returns c =
    let z : c.loop-i.i ≡ 0 = omega arith in
    erased_whole c.args.s.now (subst (ErasedFrom c.args.s.now) z c.loop-i.invariant)
