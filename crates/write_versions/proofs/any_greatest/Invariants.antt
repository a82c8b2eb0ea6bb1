-- No block that has come is one.
use Rattle.write_versions.specs.Greatest.{Searching}
use Rattle.write_versions.proofs.any_greatest.Given as goal

abbrev pub invariant-loop-i : goal.invariant-loop-i
invariant-loop-i l = Searching l.image l.range.from l.range.to l.blocks l.sizes l.s l.i
