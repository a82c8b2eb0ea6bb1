use Rattle.std.proofs.Common.{◌≡◌, ◌∙◌, sym, arith, rules, tests}
use Rattle.std.proofs.lemmas.Iterator.{YieldsList-from_map, YieldsList-from_slice}
use Rattle.std.proofs.lemmas.Iterator.Consumers.{YieldsList-at, sum_by_from_yields_List}
use Rattle.table_words.specs.Occupancy.{digits, bits, total}
use Rattle.table_words.specs.Laws.{total_within}
use Rattle.table_words.proofs.Steps.{total_words}
use Rattle.table_words.proofs.taken.Goals as goal

counted : (c : goal.After-sum) → c.sum.result ≡ total (bits c.args.words.now)
counted c =
    sum_by_from_yields_List (λ w. total (digits 64 w)) c.args.words.now c.map.result c.sum.result c.sum.ensures.ran
    (YieldsList-from_map _ (λ w. total (digits 64 w)) (YieldsList-at c.map.ensures.source (YieldsList-from_slice c.args.words.now cc)) c.map.ensures.closure (λ x r q k. search (rules, tests)))
    ∙ sym (total_words c.args.words.now)

pub returns-clause-counted : goal.returns-clause-counted
returns-clause-counted c = counted c

pub returns-clause-within : goal.returns-clause-within
returns-clause-within c = omega (arith, counted c, total_within c.args.words.now)
