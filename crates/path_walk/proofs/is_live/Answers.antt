use Rattle.std.proofs.Common.{ap, ◌∙◌}
use Rattle.volume.specs.Fate.{is_live}
use Rattle.path_walk.specs.Laws.{live_row}
use Rattle.path_walk.proofs.is_live.Goals as goal

pub returns : goal.returns
returns c = λ v rows. c.lives.ensures ∙ ap is_live c.fate_of.ensures ∙ live_row c.requires v rows c.args.id
