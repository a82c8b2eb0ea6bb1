use Rattle.std.proofs.Common.{◌∙◌, sym, ap}
use Rattle.record_places.specs.Place.{by_place}
use Rattle.file_blocks.specs.Blocks.{text_size}
use Rattle.file_blocks.specs.Walk.{file_broken, file_chain}
use Rattle.file_blocks.proofs.file_size.Goals as goal

pub returns-in_err-start-clause-told : goal.returns-in_err-start-clause-told
returns-in_err-start-clause-told c = λ v rows.
    let none_told = c.in_err-start.ensures v rows in
    rw c.from_residual.ensures
    (sym (ap (text_size (by_place c.args.rows.now.image.now)) (file_broken c.args.rows.now.image.now c.args.rows.now.ids.now c.args.rows.now.spots.now v rows c.args.file none_told)))

pub returns-clause-told : goal.returns-clause-told
returns-clause-told c = λ v rows.
    c.chain_size.ensures.told
    ∙ sym (ap (text_size (by_place c.args.rows.now.image.now))
    (file_chain c.args.rows.now.image.now c.args.rows.now.ids.now c.args.rows.now.spots.now v rows c.args.file c.in_ok-start.start c.owned_count-count.result (c.in_ok-start.ensures v rows) (c.owned_count-count.ensures.counted v rows)))
