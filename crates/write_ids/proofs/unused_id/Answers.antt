use Rattle.std.proofs.Common.{◌≡◌, length, arith}
use Rattle.write_ids.specs.Window.{id_words}
use Rattle.write_ids.specs.Laws.{few_names, unused_within}
use Rattle.write_ids.proofs.unused_id.Goals as goal

-- the window has more ids than the records name
pub take_id-requires-clause-words_bound : goal.take_id-requires-clause-words_bound
take_id-requires-clause-words_bound c =
    let long : length c.mark_named.new.words ≡ id_words = c.mark_named.auto.words in
    unused_within _ _ _ c.mark_named.ensures (omega (arith, few_names c.args.image.now c.args.places.now, c.requires.places_len_bound, long))

pub returns : goal.returns
returns c =
    let long : length c.mark_named.new.words ≡ id_words = c.mark_named.auto.words in
    (c.take_id.ensures _ c.mark_named.ensures (omega (arith, few_names c.args.image.now c.args.places.now, c.requires.places_len_bound, long))).0
