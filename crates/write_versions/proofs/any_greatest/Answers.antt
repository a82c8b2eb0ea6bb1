use Rattle.std.proofs.Common.{arith}
use Rattle.write_versions.specs.Held.{position_within}
use Rattle.write_versions.specs.Greatest.{listed_long, searching_found, searching_on, searching_ends}
use Rattle.write_versions.proofs.any_greatest.Goals as goal

pub is_greatest-requires-clause-n_bound : goal.is_greatest-requires-clause-n_bound
is_greatest-requires-clause-n_bound c =
    omega (arith, position_within c.loop-i.invariant.position (omega (arith, listed_long c.requires.listed)), c.requires.sizes.few)

pub returns-then-is_greatest : goal.returns-then-is_greatest
returns-then-is_greatest c =
    searching_found c.requires.listed c.loop-i.invariant c.loop-i-test.true c.is_greatest.result c.is_greatest.ensures c.if-is_greatest.true

pub loop-i-preserved : goal.loop-i-preserved
loop-i-preserved c =
    searching_on c.requires.listed c.loop-i.invariant c.loop-i-test.true c.is_greatest.result c.is_greatest.ensures c.if-is_greatest.false

pub returns : goal.returns
returns c = searching_ends c.requires.listed c.loop-i.invariant c.loop-i-test.false
