-- What is still to come makes of the numbers what the whole list does.
use Rattle.std.proofs.Common.{◌≡◌, ◌≤◌, drop, replicate}
use Rattle.area_structs.specs.Entries.{most_numbers, most_entries, go_on}
use Rattle.area_structs.proofs.areas_of.Given as goal

abbrev pub invariant-loop-i : goal.invariant-loop-i
invariant-loop-i l = (l.i ≤ most_entries) × (go_on (drop l.i l.list) l.i l.numbers ≡ go_on l.list 0 (replicate most_numbers 0))
