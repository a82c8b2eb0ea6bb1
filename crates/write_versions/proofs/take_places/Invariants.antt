-- The blocks that have come and hold a byte of the range have their places.
use Rattle.write_versions.specs.Plan.{Taking}
use Rattle.write_versions.proofs.take_places.Given as goal

abbrev pub invariant-loop-size : goal.invariant-loop-size
invariant-loop-size l = Taking l.range.from l.range.to l.sizes l.ends l.fn.froms l.fn.places l.froms l.places l.s l.k l.size-index
