use Rattle.std.proofs.Common.{eqb, rules, tests}
use mathlib.Core.List.{Memᴰ}
use Rattle.std.proofs.lemmas.List.{get_or_read}
use Rattle.std.proofs.lemmas.Iterator.{YieldsList-from_slice}
use Rattle.std.proofs.lemmas.Iterator.Adapters.{serves_from_places}
use Rattle.std.proofs.lemmas.Iterator.Search.{any_from_yields_List}
use Rattle.volume_laws.specs.Lists.{get_or_mem}
use Rattle.record_places.specs.Place.{by_place, Lies}
use Rattle.tree_show.specs.Going.{any_entry}
use Rattle.tree_show.proofs.has_entry.Goals as goal

pub any-requires-clause-callable : goal.any-requires-clause-callable
any-requires-clause-callable c =
    let ps = c.args.order.now in
    serves_from_places (YieldsList-from_slice ps cc) (λ x q k. search (rules, tests))
    (λ x k h e.
    let m : Memᴰ x.now ps = rw (get_or_read ps k x.now h e 0) (get_or_mem ps k 0 h) in
    let l : Lies c.args.image.now x.now = (c.requires x.now m).0 in
    search rules)

pub returns : goal.returns
returns c =
    let F = by_place c.args.image.now in
    rw (any_from_yields_List (λ p. eqb (F.parent p) c.args.directory) _ _ c.any.result c.any.ensures.ran
    (YieldsList-from_slice c.args.order.now cc) (λ x b q k. search (rules, tests)))
    (any_entry c.args.image.now c.args.order.now c.args.directory)
