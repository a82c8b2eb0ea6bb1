-- The blocks that have come and hold a byte of the range are stored.
use Rattle.write_versions.specs.Stores.{Storing}
use Rattle.write_versions.proofs.store_versions.Given as goal

abbrev pub invariant-loop-i : goal.invariant-loop-i
invariant-loop-i l = Storing l.fn.image l.blocks l.sizes l.places l.range.from l.range.to l.text l.image l.s l.k l.i
