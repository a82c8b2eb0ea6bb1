use Rattle.std.proofs.Common.{sym, le-ltb}
use Rattle.path_names.specs.Walking.{base_last, path_none, path_last}
use Rattle.path_names.proofs.is_last.Goals as goal

pub returns-in-InBase : goal.returns-in-InBase
returns-in-InBase c = rw c.in-InBase.is (sym (base_last c.args.base.now c.args.path.now _ (rw c.in-InBase.is at c.requires)))

pub returns-then-at-path : goal.returns-then-at-path
returns-then-at-path c =
    rw (c.in-InPath.is, c.segment_end.ensures.end)
    (sym (path_last c.args.base.now c.args.path.now c.in-InPath.at (rw c.in-InPath.is at c.requires) c.if-at-path.true))

pub returns-else-at-path : goal.returns-else-at-path
returns-else-at-path c =
    rw (c.in-InPath.is, le-ltb _ _ c.if-at-path.false)
    (sym (path_none c.args.base.now c.args.path.now c.in-InPath.at (rw c.in-InPath.is at c.requires) c.if-at-path.false))
