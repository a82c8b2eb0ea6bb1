use Rattle.std.proofs.Common.{◌∙◌, ℕ, eqb, not, rules, tests}
use Rattle.std.proofs.lemmas.Iterator.{YieldsList-from_slice}
use Rattle.std.proofs.lemmas.Iterator.Search.{all_from_yields_List}
use Rattle.volume_laws.specs.Library.{list_all_is}
use Rattle.path_names.proofs.no_nul.Goals as goal

pub returns : goal.returns
returns c =
    let p = λ (b : ℕ). not (eqb b 0) in
    all_from_yields_List p _ _ _ c.all.ensures.ran (YieldsList-from_slice c.args.s.now cc) (λ x b q k. search (rules, tests)) ∙ list_all_is p c.args.s.now
