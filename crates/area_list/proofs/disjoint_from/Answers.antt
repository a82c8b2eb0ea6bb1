use Rattle.std.proofs.Common.{◌/◌, length, ◌∙◌, arith, rules, tests}
use Rattle.std.proofs.lemmas.Iterator.{YieldsList-from_range}
use Rattle.std.proofs.lemmas.Iterator.Search.{all_from_yields_List}
use Rattle.volume_laws.specs.Steps.{all_asks}
use Rattle.calls.specs.Areas.{disjoint}
use Rattle.area_list.specs.Steps.{pair_of, asked}
use Rattle.area_list.proofs.disjoint_from.Goals as goal

pub returns : goal.returns
returns c =
    let n = length c.args.pairs.now / 2 in
    all_from_yields_List (λ i. disjoint c.args.area (pair_of c.args.pairs.now i)) _ _ _ c.all.ensures.ran (YieldsList-from_range 0 n n (cc) (omega arith)) (λ x b q k. search (rules, tests))
    ∙ asked (all_asks (disjoint c.args.area)) c.args.pairs.now
