use Rattle.std.proofs.Common.{◌∙◌, not, rules, tests}
use Rattle.std.proofs.lemmas.List.{get_or_read}
use Rattle.std.proofs.lemmas.Iterator.{YieldsList-from_slice}
use Rattle.std.proofs.lemmas.Iterator.Adapters.{serves_from_places}
use Rattle.std.proofs.lemmas.Iterator.Search.{all_from_yields_List}
use Rattle.volume_laws.specs.Library.{list_all_is}
use Rattle.record_places.specs.Place.{by_place, Lies}
use Rattle.collect_copies.specs.Copied.{none_same}
use Rattle.collect_copies.proofs.is_new.Goals as goal

pub all-requires-clause-callable : goal.all-requires-clause-callable
all-requires-clause-callable c =
    serves_from_places (YieldsList-from_slice c.args.listed.now cc) (λ x q k. search (rules, tests))
    (λ x k h e. let l : Lies c.args.image.now x.now = rw (get_or_read c.args.listed.now k x.now h e 0) (c.requires.all_lie k h) in search rules)

pub returns : goal.returns
unfolding none_same
returns c =
    all_from_yields_List (λ q. not ((by_place c.args.image.now).same q c.args.p)) _ _ c.all.result c.all.ensures.ran (YieldsList-from_slice c.args.listed.now cc) (λ x b q k. search (rules, tests))
    ∙ list_all_is (λ q. not ((by_place c.args.image.now).same q c.args.p)) c.args.listed.now
