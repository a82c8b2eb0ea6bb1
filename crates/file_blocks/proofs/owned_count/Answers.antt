use Rattle.std.proofs.Common.{◌≡◌, ◌∙◌, sym, arith, eqb, rules, tests, length}
use Rattle.std.proofs.lemmas.Iterator.{YieldsList-from_slice}
use Rattle.std.proofs.lemmas.Iterator.Adapters.{serves_from_places}
use Rattle.std.proofs.lemmas.Iterator.Consumers.{YieldsList-at, YieldsList-from_filter, count_from_yields_List}
use Rattle.record_places.specs.Place.{by_place, Lies}
use Rattle.file_blocks.specs.Blocks.{mine}
use Rattle.file_blocks.specs.Rows.{owned_counts, mine_rows}
use Rattle.file_blocks.proofs.Each.{each_lies}
use Rattle.file_blocks.proofs.owned_count.Goals as goal

pub count-requires-clause-can : goal.count-requires-clause-can
count-requires-clause-can c = (
  tt,
  tt,
  serves_from_places (YieldsList-at c.filter.ensures.source (YieldsList-from_slice c.args.rows.now.spots.now cc)) (λ x q k. search (rules, tests))
      (λ x k h e. let l : Lies c.args.rows.now.image.now x.now = each_lies c.args.rows.now.image.now c.args.rows.now.spots.now (λ i h. c.args.rows.now.usable.lie i (omega arith)) x.now k h e in search rules),
)

counted : (c : goal.After-count) → c.count.result ≡ length (mine (by_place c.args.rows.now.image.now) c.args.file c.args.rows.now.spots.now)
counted c =
    count_from_yields_List c.filter.result c.count.result c.count.ensures.ran
    (YieldsList-from_filter _ (λ p. eqb ((by_place c.args.rows.now.image.now).owner p) c.args.file) (YieldsList-at c.filter.ensures.source (YieldsList-from_slice c.args.rows.now.spots.now cc))
    c.filter.ensures.closure (λ x b q k. search (rules, tests)))
    ∙ mine_rows (by_place c.args.rows.now.image.now) c.args.file c.args.rows.now.spots.now

pub returns-clause-counted : goal.returns-clause-counted
returns-clause-counted c = λ v rows. counted c
    ∙ sym (owned_counts (by_place c.args.rows.now.image.now) v c.args.rows.now.ids.now c.args.rows.now.spots.now rows c.args.rows.now.usable.pairs c.args.file)
