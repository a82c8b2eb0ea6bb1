use Rattle.std.proofs.Common.{sym, ◌∙◌}
use Rattle.path_find.specs.Below.{bad_path, by_names}
use Rattle.path_find.proofs.is_below_root.Goals as goal

pub returns-then-not-good_path : goal.returns-then-not-good_path
returns-then-not-good_path c = bad_path c.args.base.now c.args.path.now (sym c.good_path.ensures ∙ c.if-not-good_path.true)

pub returns : goal.returns
returns c =
    c.has_name.ensures
    ∙ by_names c.args.base.now c.args.path.now (sym c.good_path.ensures ∙ c.if-not-good_path.false) _ c.start-w.ensures.names
