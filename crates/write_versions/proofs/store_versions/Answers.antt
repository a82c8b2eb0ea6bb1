use Rattle.std.proofs.Common.{sym, ◌∙◌, arith}
use Rattle.write_versions.specs.Held.{position_within}
use Rattle.write_versions.specs.Greatest.{listed_long}
use Rattle.write_versions.specs.Stores.{storing_inside, storing_past, storing_row, storing_fits, storing_on, storing_ends}
use Rattle.write_versions.proofs.store_versions.Goals as goal
use Rattle.write_versions.proofs.store_versions.Goals.{then-holds, else-holds}

-- the block of a turn has a size
pub holds-requires : goal.holds-requires
holds-requires c =
    omega (arith, position_within c.loop-i.invariant.position (omega (arith, listed_long c.requires.listed)), c.requires.sizes.few)

-- and there is a place for it
pub bounds-places-k : goal.bounds-places-k
bounds-places-k c = storing_row c.requires c.loop-i.invariant c.loop-i-test.true (sym c.holds.ensures ∙ c.if-holds.true)

pub store_part-requires-clause-n_in_bounds : goal.store_part-requires-clause-n_in_bounds
store_part-requires-clause-n_in_bounds c = (
  storing_inside c.requires c.loop-i.invariant c.loop-i-test.true,
  storing_fits c.requires c.loop-i.invariant c.loop-i-test.true (sym c.holds.ensures ∙ c.if-holds.true),
  omega (arith, position_within c.loop-i.invariant.position (omega (arith, listed_long c.requires.listed)), c.requires.sizes.few),
)

pub loop-i-preserved : goal.loop-i-preserved
loop-i-preserved c = elim c.if-holds.branch [
  | then-holds w ↦
      rw (w.image-is, w.k-is)
      (storing_on c.requires c.loop-i.invariant c.loop-i-test.true (sym c.holds.ensures ∙ w.if-holds.true) w.store_part.new.image w.store_part.auto.image w.store_part.ensures)
  | else-holds w ↦
      rw (w.image-is, w.k-is) (storing_past c.requires c.loop-i.invariant c.loop-i-test.true (sym c.holds.ensures ∙ w.if-holds.false))
]

pub returns : goal.returns
returns c = storing_ends c.requires c.loop-i.invariant c.loop-i-test.false
