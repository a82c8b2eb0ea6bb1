use Rattle.std.proofs.Common.{leb, ◌∙◌, rules, tests}
use Rattle.std.proofs.lemmas.Iterator.{YieldsList-from_slice}
use Rattle.std.proofs.lemmas.Iterator.Search.{all_from_yields_List}
use Rattle.volume_laws.specs.Library.{list_all_is}
use Rattle.area_kinds.proofs.none_longer.Goals as goal

pub returns : goal.returns
returns c =
    let most = c.args.most in
    all_from_yields_List (λ x. leb x most) _ _ _ c.all.ensures.ran (YieldsList-from_slice c.args.spans.now cc) (λ x b q k. search (rules, tests)) ∙ list_all_is (λ x. leb x most) c.args.spans.now
