use Rattle.std.proofs.Common.{◌<◌, length, arith}
use Rattle.path_names.specs.Walking.{base_left, base_stepped, path_inside, path_stepped}
use Rattle.path_names.proofs.after.Goals as goal

-- a name in the path starts inside it
inside : (c : goal.In-InPath) → c.in-InPath.at < length c.args.path.now
inside c =
    path_inside c.args.base.now c.args.path.now c.in-InPath.at (rw c.in-InPath.is at c.requires.reached) (rw c.in-InPath.is at c.requires.w_value)

pub segment_end-requires : goal.segment_end-requires
segment_end-requires c = omega (arith, inside c)

-- and ends where the limit of its length lets the place behind it fit
pub overflow_add-result : goal.overflow_add-result
overflow_add-result c =
    let r = rw c.in-InPath.is at c.requires.reached in
    let n = path_inside c.args.base.now c.args.path.now c.in-InPath.at r (rw c.in-InPath.is at c.requires.w_value) in
    omega (arith, c.segment_end.ensures.within (omega arith), r.short)

pub returns-then-next-base : goal.returns-then-next-base
returns-then-next-base c =
    rw (c.in-InBase.is, c.segment_end-next.ensures.end)
    (base_stepped c.args.base.now c.args.path.now c.in-InBase.at (rw c.in-InBase.is at c.requires.reached)
    (rw c.segment_end-next.ensures.end at c.if-next-base.true))

pub returns-else-next-base : goal.returns-else-next-base
returns-else-next-base c =
    rw c.in-InBase.is
    (base_left c.args.base.now c.args.path.now c.in-InBase.at (rw c.in-InBase.is at c.requires.reached)
    (rw c.segment_end-next.ensures.end at c.if-next-base.false))

pub returns-in-InPath : goal.returns-in-InPath
returns-in-InPath c =
    let r = rw c.in-InPath.is at c.requires.reached in
    rw (c.in-InPath.is, c.segment_end.ensures.end)
    (path_stepped c.args.base.now c.args.path.now c.in-InPath.at r
    (path_inside c.args.base.now c.args.path.now c.in-InPath.at r (rw c.in-InPath.is at c.requires.w_value)))
