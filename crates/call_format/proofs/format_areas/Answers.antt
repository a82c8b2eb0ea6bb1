use Rattle.std.proofs.Common.{◌∙◌}
use Rattle.calls.specs.Format.{formatted}
use Rattle.call_format.proofs.format_areas.Goals as goal

pub returns : goal.returns
unfolding formatted
returns c = c.write_root.ensures ∙ rw (c.write_areas.ensures, c.longest-most.ensures)
