-- `path_find::last_name`: the last of the names left is the last of all.
use Rattle.std.proofs.Common.{length}
use Rattle.path_names.specs.Names.{names_from}
use Rattle.path_find.specs.Parent.{Toward}
use Rattle.path_find.proofs.last_name.Given as goal

abbrev pub invariant-loop-w : goal.invariant-loop-w
invariant-loop-w l = Toward l.base l.path l.w

abbrev pub decreases-loop-w : goal.decreases-loop-w
decreases-loop-w l = length (names_from l.base l.path l.w)
