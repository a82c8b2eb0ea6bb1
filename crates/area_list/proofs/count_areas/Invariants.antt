use Rattle.area_list.specs.Listing.{Counting}
use Rattle.area_list.proofs.count_areas.Given as goal

abbrev pub invariant-loop-n : goal.invariant-loop-n
invariant-loop-n l = Counting l.areas l.n
