use Rattle.std.proofs.Common.{le-leb}
use Rattle.std.proofs.lemmas.Bool.{lt-leb}
use Rattle.format_laws.specs.Tests.{via}
use Rattle.volume.specs.Path.{good_absolute}
use Rattle.path_names.specs.Walking.{root_good, names_behind}
use Rattle.path_names.proofs.good_absolute.Goals as goal

pub returns-then-not-is_absolute : goal.returns-then-not-is_absolute
unfolding good_absolute
returns-then-not-is_absolute c = simp (via c.is_absolute.ensures c.if-not-is_absolute.true)

pub returns-then-s-le1 : goal.returns-then-s-le1
unfolding good_absolute
returns-then-s-le1 c =
    simp (
      via c.is_absolute.ensures c.if-not-is_absolute.false,
      le-leb _ _ c.if-s-le-LONGEST_PATH.true,
      le-leb _ _ c.if-s-le1.true,
      root_good c.args.s.now c.if-s-le1.true,
    )

pub returns-else-s-le1 : goal.returns-else-s-le1
unfolding good_absolute
returns-else-s-le1 c =
    simp (
      via c.is_absolute.ensures c.if-not-is_absolute.false,
      le-leb _ _ c.if-s-le-LONGEST_PATH.true,
      names_behind c.args.s.now c.if-s-le1.false,
    ) c.good_segments.ensures

pub returns-else-s-le-LONGEST_PATH : goal.returns-else-s-le-LONGEST_PATH
unfolding good_absolute
returns-else-s-le-LONGEST_PATH c = simp (via c.is_absolute.ensures c.if-not-is_absolute.false, lt-leb _ _ c.if-s-le-LONGEST_PATH.false)
