use Rattle.path_names.specs.Segments.{absolute_is}
use Rattle.std.proofs.Common.{◌∙◌}
use Rattle.path_names.proofs.is_absolute.Goals as goal

pub returns : goal.returns
returns c = c.starts_with.ensures.value ∙ absolute_is c.args.s.now
