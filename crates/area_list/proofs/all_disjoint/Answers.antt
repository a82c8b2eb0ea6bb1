use Rattle.std.proofs.Common.{◌+◌, ◌*◌, ◌/◌, length, drop, ◌∙◌, arith, rules, tests}
use Rattle.std.proofs.lemmas.Iterator.{YieldsList-from_range}
use Rattle.std.proofs.lemmas.Iterator.Search.{all_from_yields_List}
use Rattle.format_laws.specs.Bytes.{rest_part}
use Rattle.volume.specs.Lists.{all}
use Rattle.calls.specs.Areas.{disjoint}
use Rattle.area_list.specs.Numbers.{paired}
use Rattle.area_list.specs.Steps.{pair_of, disjoint_asks, asked}
use Rattle.area_list.proofs.all_disjoint.Goals as goal

pub returns : goal.returns
returns c =
    let n = length c.args.pairs.now / 2 in
    all_from_yields_List (λ i. all (disjoint (pair_of c.args.pairs.now i)) (paired (drop ((i + 1) * 2) c.args.pairs.now))) _ _ _ c.all.ensures.ran (YieldsList-from_range 0 n n (cc) (omega arith)) (λ x b q k. search (rules, tests, rest_part))
    ∙ asked disjoint_asks c.args.pairs.now
