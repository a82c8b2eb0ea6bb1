use Rattle.area_list.specs.Numbers.{area_list}
use Rattle.std.proofs.Common.{◌∙◌}
use Rattle.path_walk.specs.Resolved.{meaning}
use Rattle.call_entries.specs.Calls.{lookup_is}
use Rattle.call_entries.proofs.lookup_of.Goals as goal

pub returns : goal.returns
returns c = c.lookup_answer.ensures ∙ lookup_is c.args.image.now (area_list c.args.areas.numbers) c.args.base.now c.args.path.now (meaning c.find_of.result) c.find_of.ensures
