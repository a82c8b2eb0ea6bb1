use Rattle.std.proofs.Common.{◌∙◌, ◌&&◌, not, eqb, rules, tests}
use Rattle.std.proofs.lemmas.Iterator.{YieldsList-from_slice}
use Rattle.std.proofs.lemmas.Iterator.Adapters.{serves_from_places}
use Rattle.std.proofs.lemmas.Iterator.Search.{all_from_yields_List}
use Rattle.record_places.specs.Place.{by_place, Lies}
use Rattle.file_blocks.specs.Rows.{free_rows}
use Rattle.file_blocks.proofs.Each.{each_lies}
use Rattle.file_blocks.proofs.is_free.Goals as goal

pub all-requires-clause-callable : goal.all-requires-clause-callable
all-requires-clause-callable c =
    serves_from_places (YieldsList-from_slice c.args.spots.now cc) (λ x q k. search (rules, tests))
    (λ x k h e. let l : Lies c.args.image.now x.now = each_lies c.args.image.now c.args.spots.now c.requires x.now k h e in search rules)

pub returns : goal.returns
returns c =
    let F = by_place c.args.image.now in
    all_from_yields_List (λ p. not (eqb (F.owner p) c.args.file && eqb (F.previous p) c.args.id)) _ _ c.all.result c.all.ensures.ran
    (YieldsList-from_slice c.args.spots.now cc) (λ x b q k. search (rules, tests))
    ∙ free_rows F c.args.file c.args.id c.args.spots.now
