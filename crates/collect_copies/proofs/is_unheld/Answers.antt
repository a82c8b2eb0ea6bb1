use Rattle.std.proofs.Common.{◌∙◌, not, rules, tests}
use Rattle.std.proofs.lemmas.List.{get_or_read}
use Rattle.std.proofs.lemmas.Iterator.{YieldsList-from_slice}
use Rattle.std.proofs.lemmas.Iterator.Adapters.{serves_from_places}
use Rattle.std.proofs.lemmas.Iterator.Search.{all_from_yields_List}
use Rattle.volume_laws.specs.Library.{list_all_is}
use Rattle.record_places.specs.Place.{Lies}
use Rattle.collect_copies.specs.Copied.{inside, holds, unheld}
use Rattle.collect_copies.proofs.is_unheld.Goals as goal

pub all-requires-clause-callable : goal.all-requires-clause-callable
all-requires-clause-callable c =
    serves_from_places (YieldsList-from_slice c.args.places.now cc) (λ x q k. search (rules, tests))
    (λ x k h e. let l : Lies c.args.image.now x.now = rw (get_or_read c.args.places.now k x.now h e 0) (c.requires k h) in search rules)

pub returns : goal.returns
unfolding unheld
returns c =
    all_from_yields_List (λ q. not (holds c.args.image.now c.args.id c.args.block (inside c.args.offset c.args.span q) q)) _ _ c.all.result c.all.ensures.ran
    (YieldsList-from_slice c.args.places.now cc) (λ x b q k. search (rules, tests))
    ∙ list_all_is (λ q. not (holds c.args.image.now c.args.id c.args.block (inside c.args.offset c.args.span q) q)) c.args.places.now
