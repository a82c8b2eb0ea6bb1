use Rattle.area_pass.specs.Rows.{Going}
use Rattle.area_pass.proofs.list_areas.Given as goal

abbrev pub invariant-loop-i : goal.invariant-loop-i
invariant-loop-i l = Going l.image l.fn.rows l.files l.fn.places l.rows l.places l.count l.damage l.i
