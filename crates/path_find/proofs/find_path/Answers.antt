use Rattle.std.proofs.Common.{sym, ◌∙◌}
use Rattle.path_find.specs.Tree.{path_bad, path_good}
use Rattle.path_find.proofs.find_path.Goals as goal

pub returns-then-not-good_path : goal.returns-then-not-good_path
returns-then-not-good_path c =
    λ ds h. path_bad h c.args.base.now c.args.path.now (sym c.good_path.ensures ∙ c.if-not-good_path.true)

pub returns : goal.returns
returns c =
    λ ds h. c.walk.ensures ds h ∙ path_good h c.args.base.now c.args.path.now (sym c.good_path.ensures ∙ c.if-not-good_path.false)
