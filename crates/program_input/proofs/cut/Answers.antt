use Rattle.std.proofs.Common.{sym, ◌∙◌}
use Rattle.program_input.specs.Cut.{few}
use Rattle.program_input.proofs.cut.Goals as goal

pub describe-requires : goal.describe-requires
describe-requires c = few c.args.n (sym c.whole_areas.ensures ∙ c.if-not-whole_areas.false)
