use Rattle.format_laws.specs.Tests.{via}
use Rattle.path_names.specs.Walking.{started_absolute, started_below_root, started_below}
use Rattle.path_names.proofs.start.Goals as goal

pub returns-then-is_absolute : goal.returns-then-is_absolute
returns-then-is_absolute c = started_absolute c.args.base.now c.args.path.now c.requires (via c.is_absolute.ensures c.if-is_absolute.true)

pub returns-then-base-le1 : goal.returns-then-base-le1
returns-then-base-le1 c =
    started_below_root c.args.base.now c.args.path.now c.requires (via c.is_absolute.ensures c.if-is_absolute.false) c.if-base-le1.true

pub returns-else-base-le1 : goal.returns-else-base-le1
returns-else-base-le1 c =
    started_below c.args.base.now c.args.path.now c.requires (via c.is_absolute.ensures c.if-is_absolute.false) c.if-base-le1.false
