-- `nffs::nffs_tree` meets its contract: the call took the list cut to what tells as much.
use mathlib.Core.Path.{ap, ◌∙◌}
use Rattle.calls.specs.Areas.{listed}
use Rattle.calls.specs.Tree.{attempt_tree, tree_answer, buffer_with}
use Rattle.area_structs.specs.Cut.{tree_whole}
use Rattle.nffs_walk.proofs.Forward.{forwarded}
use Rattle.nffs.proofs.nffs_tree.Goals as goal

pub returns-clause-answer : goal.returns-clause-answer
returns-clause-answer c =
    forwarded (λ l. tree_answer (attempt_tree c.args.image.now l)) _ (listed c.args.areas.now) (c.from.ensures ∙ c.tree_of.ensures.answer) c.areas_of.ensures.1
    (ap tree_answer (tree_whole c.args.image.now (listed c.args.areas.now)))

pub returns-clause-bytes : goal.returns-clause-bytes
returns-clause-bytes c =
    forwarded (λ l. buffer_with c.args.text.now (attempt_tree c.args.image.now l)) _ (listed c.args.areas.now) c.tree_of.ensures.bytes c.areas_of.ensures.1
    (ap (buffer_with c.args.text.now) (tree_whole c.args.image.now (listed c.args.areas.now)))
