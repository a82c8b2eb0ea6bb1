-- `update` ends in one of four ways.
use Rattle.std.proofs.Common.{◌≡◌, ◌<◌, ◌≤◌, arith, take}
use Rattle.record_places.specs.Place.{by_place}
use Rattle.table_words.specs.Position.{position_of}
use Rattle.table_index.specs.Laws.{slot_within}
use Rattle.table_rows.specs.Table.{taken}
use Rattle.table_rows.proofs.Part.{number, spot_lies, over, under, new, full, indexed_new}
use Rattle.table_rows.proofs.update.Goals as goal
use Rattle.table_rows.proofs.update.Goals.{After-row_of-k, Then-k-n, Else-k-n}

-- the row that was found
row : (c : After-row_of-k) → c.row_of-k.result ≡ position_of ((by_place c.args.image.now).id c.args.p) (take (taken c.args.words.now) c.args.rows.now)
row c = let n = number c.requires.good_part _ c.first_free-n.ensures.lowest in let i = c.id_at-id.ensures in cc

there : (c : Then-k-n) → c.row_of-k.result < taken c.args.words.now
there c = omega (arith, number c.requires.good_part _ c.first_free-n.ensures.lowest)

absent : (c : Else-k-n) → taken c.args.words.now ≤ c.row_of-k.result
absent c = omega (arith, number c.requires.good_part _ c.first_free-n.ensures.lowest)

pub row_of-k-requires-clause-row_index : goal.row_of-k-requires-clause-row_index
row_of-k-requires-clause-row_index c = rw (number c.requires.good_part _ c.first_free-n.ensures.lowest) c.requires.indexed_part.rows

pub sequence_at-requires : goal.sequence_at-requires
sequence_at-requires c = spot_lies c.requires.good_part c.row_of-k.result (there (goal.at.sequence_at-requires c).Then-k-n)

pub returns-then-sequence_at-clause-shown : goal.returns-then-sequence_at-clause-shown
returns-then-sequence_at-clause-shown c =
    let at = goal.at.returns-then-sequence_at-clause-shown c in
    over c.requires.good_part c.args.p c.row_of-k.result (row at.After-row_of-k) (there at.Then-k-n)
    (omega (arith, c.sequence_at.ensures, c.sequence_at-then-k-n.ensures))

pub returns-then-k-n-clause-shown : goal.returns-then-k-n-clause-shown
returns-then-k-n-clause-shown c =
    let at = goal.at.returns-then-k-n-clause-shown c in
    under c.requires.good_part c.args.p c.row_of-k.result (row at.After-row_of-k) (there at.Then-k-n)
    (omega (arith, c.sequence_at.ensures, c.sequence_at-then-k-n.ensures))

pub put-requires-clause-slot_lt_slots : goal.put-requires-clause-slot_lt_slots
put-requires-clause-slot_lt_slots c = rw c.slot_of.ensures (slot_within _)

pub returns-then-n-most-clause-shown : goal.returns-then-n-most-clause-shown
returns-then-n-most-clause-shown c =
    let at = goal.at.returns-then-n-most-clause-shown c in
    new c.requires.good_part c.args.p c.row_of-k.result (row at.After-row_of-k) (absent at.Else-k-n) c.id_at-id.result c.first_free-n.result
    c.occupy.new.words c.id_at-id.ensures c.first_free-n.ensures.lowest c.if-n-most.true c.occupy.ensures

pub returns-then-n-most-clause-indexed : goal.returns-then-n-most-clause-indexed
returns-then-n-most-clause-indexed c =
    let at = goal.at.returns-then-n-most-clause-indexed c in
    rw (c.put.ensures, c.slot_of.ensures)
    (indexed_new c.requires.good_part c.args.p c.row_of-k.result (row at.After-row_of-k) c.requires.indexed_part (absent at.Else-k-n) c.id_at-id.result
    c.first_free-n.result c.occupy.new.words c.id_at-id.ensures c.first_free-n.ensures.lowest c.if-n-most.true c.occupy.ensures)

pub returns-clause-shown : goal.returns-clause-shown
returns-clause-shown c =
    let at = goal.at.returns-clause-shown c in
    full c.requires.good_part c.args.p c.row_of-k.result (row at.After-row_of-k) (absent at.Else-k-n)
    c.first_free-n.result c.first_free-n.ensures.lowest c.if-n-most.false
