use Rattle.std.proofs.Common.{sym, ap, ◌∙◌, length}
use Rattle.table_rows.specs.Answer.{meant}
use Rattle.table_rows.specs.Table.{found}
use Rattle.collect_copies.specs.Steps.{counts_none, counts_one}
use Rattle.collect_copies.proofs.counts_in.Goals as goal

pub returns-in_default : goal.returns-in_default
returns-in_default c =
    let a = c.args in
    let there = c.find.ensures ∙ ap (found (length a.rows.now.ids.now) a.rows.now.ids.now a.rows.now.spots.now) c.id_at.ensures in
    counts_none a.rows.now.image.now (record { ids = a.rows.now.ids.now; spots = a.rows.now.spots.now }) a.p (sym there ∙ ap meant c.in_default.is)

pub returns : goal.returns
returns c =
    let a = c.args in
    let there = c.find.ensures ∙ ap (found (length a.rows.now.ids.now) a.rows.now.ids.now a.rows.now.spots.now) c.id_at.ensures in
    c.same_bytes.ensures
    ∙ counts_one a.rows.now.image.now (record { ids = a.rows.now.ids.now; spots = a.rows.now.spots.now }) a.p c.in-Some.q (sym there ∙ ap meant c.in-Some.is)
