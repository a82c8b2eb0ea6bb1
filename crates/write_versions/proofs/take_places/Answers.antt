use Rattle.std.proofs.Common.{sym, ◌∙◌, arith}
use Rattle.write_versions.specs.Held.{position_within}
use Rattle.write_versions.specs.Plan.{taking_past, taking_fails, taking_on, taking_ends}
use Rattle.write_versions.proofs.take_places.Goals as goal
use Rattle.write_versions.proofs.take_places.Goals.{then-holds+in-Some, else-holds}

pub holds-requires : goal.holds-requires
holds-requires c = omega (arith, position_within c.loop-size.invariant.position c.loop-size-test.true, c.requires.sizes.few)

pub returns-in_default : goal.returns-in_default
returns-in_default c =
    taking_fails c.loop-size.invariant c.loop-size-test.true (sym c.holds.ensures ∙ c.if-holds.true)
    c.take_place.result c.take_place.new.froms c.take_place.ensures c.in_default.is

pub loop-size-preserved : goal.loop-size-preserved
loop-size-preserved c = elim c.if-holds.branch [
  | then-holds+in-Some w ↦
      rw (w.froms-is, w.places-is, w.k-is)
      (taking_on c.loop-size.invariant c.loop-size-test.true (sym c.holds.ensures ∙ w.if-holds.true)
      w.take_place.result w.take_place.new.froms w.take_place.ensures (c.loop-size.invariant.planning.places_long ∙ c.requires.froms_len.1) w.take_place.auto.froms w.in-Some.at w.in-Some.is)
  | else-holds w ↦
      rw (w.froms-is, w.places-is, w.k-is) (taking_past c.loop-size.invariant c.loop-size-test.true (sym c.holds.ensures ∙ w.if-holds.false))
]

pub returns : goal.returns
returns c = taking_ends c.loop-size.invariant c.loop-size-test.false
