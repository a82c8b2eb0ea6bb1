use Rattle.std.proofs.Common.{◌∙◌, drop, rules, tests}
use Rattle.std.proofs.lemmas.Iterator.{YieldsList-from_slice}
use Rattle.std.proofs.lemmas.Iterator.Adapters.{YieldsList-from_skip}
use Rattle.std.proofs.lemmas.Iterator.Search.{all_from_yields_List}
use Rattle.std.proofs.Math.Dec.{eqb}
use Rattle.format.specs.AreaHeader.{area_header_size}
use Rattle.format.specs.Reading.{ERASED}
use Rattle.volume_laws.specs.Library.{list_all_is}
use Rattle.calls.specs.Collect.{is_blank}
use Rattle.collect_stores.proofs.is_blank.Goals as goal

pub returns : goal.returns
unfolding is_blank
returns c =
    let area = c.args.area.now in
    all_from_yields_List (λ b. eqb b ERASED) _ _ _ c.all.ensures.ran (YieldsList-from_skip area_header_size (YieldsList-from_slice area cc) cc) (λ x b q k. search (rules, tests))
    ∙ list_all_is (λ b. eqb b ERASED) (drop area_header_size area)
