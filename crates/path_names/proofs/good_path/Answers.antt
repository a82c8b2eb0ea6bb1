use Rattle.format_laws.specs.Tests.{via}
use Rattle.volume.specs.Path.{good_path}
use Rattle.path_names.proofs.good_path.Goals as goal

pub returns-then-is_absolute : goal.returns-then-is_absolute
unfolding good_path
returns-then-is_absolute c = simp (via c.is_absolute.ensures c.if-is_absolute.true) c.good_absolute.ensures

pub returns-then-good_absolute : goal.returns-then-good_absolute
unfolding good_path
returns-then-good_absolute c =
    simp (
      via c.is_absolute.ensures c.if-is_absolute.false,
      via c.good_absolute-else-is_absolute.ensures c.if-good_absolute.true,
    ) c.good_relative.ensures

pub returns-else-good_absolute : goal.returns-else-good_absolute
unfolding good_path
returns-else-good_absolute c =
    simp (
      via c.is_absolute.ensures c.if-is_absolute.false,
      via c.good_absolute-else-is_absolute.ensures c.if-good_absolute.false,
    ) c.if-good_absolute.false
