use Rattle.std.proofs.Common.{◌≡◌}
use Rattle.program_input.specs.Cut.{described}
use Rattle.program_input.proofs.describe.Given as goal

abbrev pub invariant-loop-i : goal.invariant-loop-i
invariant-loop-i l = l.numbers ≡ described l.i
