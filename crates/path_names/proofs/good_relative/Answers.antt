use Rattle.std.proofs.Common.{le-leb}
use Rattle.std.proofs.lemmas.Bool.{lt-leb}
use Rattle.volume.specs.Path.{good_relative}
use Rattle.path_names.proofs.good_relative.Goals as goal

pub returns-then-s-le-LONGEST_PATH : goal.returns-then-s-le-LONGEST_PATH
unfolding good_relative
returns-then-s-le-LONGEST_PATH c = simp (le-leb _ _ c.if-s-le-LONGEST_PATH.true) c.good_segments.ensures

pub returns-else-s-le-LONGEST_PATH : goal.returns-else-s-le-LONGEST_PATH
unfolding good_relative
returns-else-s-le-LONGEST_PATH c = simp (lt-leb _ _ c.if-s-le-LONGEST_PATH.false)
