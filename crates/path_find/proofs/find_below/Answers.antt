use Rattle.path_find.specs.Below.{below_named, not_below_lem}
use Rattle.path_find.proofs.find_below.Goals as goal

pub returns-then-not-is_below_root : goal.returns-then-not-is_below_root
returns-then-not-is_below_root c =
    λ ds h. rw (not_below_lem c.args.base.now c.args.path.now c.is_below_root.result c.is_below_root.ensures c.if-not-is_below_root.true)

pub walk-requires-clause-path_value : goal.walk-requires-clause-path_value
walk-requires-clause-path_value c =
    (below_named c.args.base.now c.args.path.now c.is_below_root.result c.is_below_root.ensures c.if-not-is_below_root.false).1

pub returns : goal.returns
returns c =
    λ ds h. rw (below_named c.args.base.now c.args.path.now c.is_below_root.result c.is_below_root.ensures c.if-not-is_below_root.false).0
    (c.walk.ensures ds h)
