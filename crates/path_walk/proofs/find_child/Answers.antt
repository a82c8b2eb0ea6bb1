use Rattle.std.proofs.Common.{refl, arith}
use Rattle.path_walk.specs.Laws.{no_child, one_child, more_children}
use Rattle.path_walk.proofs.find_child.Goals as goal

pub returns-in_default : goal.returns-in_default
returns-in_default c = λ v rows. no_child c.requires v rows c.args.directory c.args.name.now _ (c.in_default.ensures.first v rows) refl

pub returns-in-Some-next_child : goal.returns-in-Some-next_child
returns-in-Some-next_child c =
    λ v rows. more_children c.requires v rows c.args.directory c.args.name.now c.in-Some.first (c.in-Some.ensures.first v rows) c.in-Some.ensures.within
    _ (c.in-Some-next_child.ensures.first v rows) (omega (arith, c.in-Some-next_child.ensures.within))

pub returns-in-None : goal.returns-in-None
returns-in-None c =
    λ v rows. one_child c.requires v rows c.args.directory c.args.name.now c.in-Some.first (c.in-Some.ensures.first v rows) c.in-Some.ensures.within
    _ (c.in-None.ensures.first v rows) (omega arith)
