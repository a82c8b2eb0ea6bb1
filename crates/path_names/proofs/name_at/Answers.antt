use Rattle.std.proofs.Common.{◌<◌, length, arith}
use Rattle.path_names.specs.Walking.{base_named, path_named, path_inside}
use Rattle.path_names.proofs.name_at.Goals as goal

-- the name is inside the path
inside : (c : goal.In-InPath) → c.in-InPath.at < length c.args.path.now
inside c =
    path_inside c.args.base.now c.args.path.now c.in-InPath.at (rw c.in-InPath.is at c.requires.reached) (rw c.in-InPath.is at c.requires.w_value)

pub segment_end-requires-in-InPath : goal.segment_end-requires-in-InPath
segment_end-requires-in-InPath c = omega (arith, inside c)

pub slice_bounds-result-end-in-InPath : goal.slice_bounds-result-end-in-InPath
slice_bounds-result-end-in-InPath c =
    let n = path_inside c.args.base.now c.args.path.now c.in-InPath.at (rw c.in-InPath.is at c.requires.reached) (rw c.in-InPath.is at c.requires.w_value) in
    c.segment_end-in-InPath.ensures.within (omega arith)

pub returns-in-InBase : goal.returns-in-InBase
returns-in-InBase c =
    rw (c.in-InBase.is, c.segment_end.ensures.end)
    (base_named c.args.base.now c.args.path.now c.in-InBase.at (rw c.in-InBase.is at c.requires.reached))

pub returns-in-InPath : goal.returns-in-InPath
returns-in-InPath c =
    let r = rw c.in-InPath.is at c.requires.reached in
    rw (c.in-InPath.is, c.segment_end-in-InPath.ensures.end)
    (path_named c.args.base.now c.args.path.now c.in-InPath.at r
    (path_inside c.args.base.now c.args.path.now c.in-InPath.at r (rw c.in-InPath.is at c.requires.w_value)))
