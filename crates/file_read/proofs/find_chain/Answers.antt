use Rattle.std.proofs.Common.{◌∙◌, sym}
use Rattle.file_blocks.specs.Walk.{file_broken, file_chain}
use Rattle.file_read.specs.Follow.{sized_none}
use Rattle.file_read.proofs.find_chain.Goals as goal

pub returns-in_err-last-clause-told : goal.returns-in_err-last-clause-told
returns-in_err-last-clause-told c = λ v rows.
    let none_told = c.in_err-last.ensures v rows in
    rw c.from_residual.ensures (file_broken c.args.rows.now.image.now c.args.rows.now.ids.now c.args.rows.now.spots.now v rows c.args.file none_told)

pub returns-in_err-size-clause-told : goal.returns-in_err-size-clause-told
returns-in_err-size-clause-told c = λ v rows.
    rw c.from_residual-in_err-size.ensures
    (file_chain c.args.rows.now.image.now c.args.rows.now.ids.now c.args.rows.now.spots.now v rows c.args.file c.in_ok-last.last c.owned_count-count.result
    (c.in_ok-last.ensures v rows) (c.owned_count-count.ensures.counted v rows)
    ∙ sized_none _ _ (sym c.in_err-size.ensures.told))

pub returns-clause-told : goal.returns-clause-told
returns-clause-told c = λ v rows.
    file_chain c.args.rows.now.image.now c.args.rows.now.ids.now c.args.rows.now.spots.now v rows c.args.file c.in_ok-last.last c.owned_count-count.result
    (c.in_ok-last.ensures v rows) (c.owned_count-count.ensures.counted v rows)
