use Rattle.std.proofs.Common.{◌≡◌, length, arith}
use Rattle.write_ids.specs.Window.{id_words}
use Rattle.write_ids.specs.Laws.{few_names}
use Rattle.write_pieces.specs.Laws.{taking_room, taking_on, taking_ends}
use Rattle.write_pieces.proofs.plan_ids.Goals as goal

-- the window has more ids than the records name and the pieces need
pub take_id-requires-clause-words_bound : goal.take_id-requires-clause-words_bound
take_id-requires-clause-words_bound c =
    let long : length c.mark_named.new.words ≡ id_words = c.mark_named.auto.words in
    taking_room c.loop-id.invariant (omega (arith, few_names c.args.image.now c.args.records.now, c.requires.records_len_bound, long)) (omega (arith, c.loop-id.invariant.ids_long))

pub loop-id-preserved : goal.loop-id-preserved
loop-id-preserved c =
    let long : length c.mark_named.new.words ≡ id_words = c.mark_named.auto.words in
    taking_on c.loop-id.invariant (omega (arith, few_names c.args.image.now c.args.records.now, c.requires.records_len_bound, long)) (omega (arith, c.loop-id.invariant.ids_long))
    c.take_id.result c.take_id.auto.words c.take_id.ensures

pub returns : goal.returns
returns c = taking_ends c.loop-id.invariant (omega (arith, c.loop-id.invariant.ids_long))
