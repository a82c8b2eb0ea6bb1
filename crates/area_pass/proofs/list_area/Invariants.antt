-- Listing and reading have come to the same place.
use Rattle.std.proofs.Common.{◌-◌, length}
use Rattle.area_pass.specs.Reading.{Read}
use Rattle.area_pass.specs.Laws.{Going}
use Rattle.area_pass.proofs.list_area.Given as goal

abbrev pub invariant-loop-next : goal.invariant-loop-next
invariant-loop-next l = Going l.area l.base l.fn.places l.n l.places l.count l.at × Read l.area l.stretch l.at l.damage

abbrev pub decreases-loop-next : goal.decreases-loop-next
decreases-loop-next l = length l.area - l.at
