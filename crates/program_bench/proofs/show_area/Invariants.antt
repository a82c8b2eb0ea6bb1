use Rattle.std.proofs.Common.{◌≤◌, length}
use Rattle.program_bench.proofs.show_area.Given as goal

abbrev pub invariant-loop : goal.invariant-loop
invariant-loop l = l.at ≤ length l.area
