use Rattle.std.proofs.Common.{◌∙◌, sym, ap, arith, length-take-le, take_at}
use Rattle.std.proofs.Math.Option.{some}
use Rattle.file_blocks.specs.Walk.{file_broken, file_chain}
use Rattle.file_list.proofs.list_file.Goals as goal

pub returns-in_err-last-clause-told : goal.returns-in_err-last-clause-told
returns-in_err-last-clause-told c = λ v rows.
    let none_told = c.in_err-last.ensures v rows in
    rw c.from_residual.ensures (sym (file_broken c.args.rows.now.image.now c.args.rows.now.ids.now c.args.rows.now.spots.now v rows c.args.file none_told))

pub returns-in_err-size-clause-told : goal.returns-in_err-size-clause-told
returns-in_err-size-clause-told c = λ v rows.
    let b = length-take-le c.owned_count-n.result c.args.blocks.now (omega (arith, c.requires.ids_in_bounds)) in
    rw c.from_residual-in_err-size.ensures
    (sym (file_chain c.args.rows.now.image.now c.args.rows.now.ids.now c.args.rows.now.spots.now v rows c.args.file c.in_ok-last.last c.owned_count-n.result
    (c.in_ok-last.ensures v rows) (c.owned_count-n.ensures.counted v rows) ∙ rw b at c.in_err-size.ensures.told))

pub returns-clause-told : goal.returns-clause-told
returns-clause-told c = λ v rows.
    let b = length-take-le c.owned_count-n.result c.args.blocks.now (omega (arith, c.requires.ids_in_bounds)) in
    let t = rw b at c.in_ok-size.ensures.told in
    ap some (take_at _ _ c.owned_count-n.result (c.list_chain.auto.blocks ∙ b))
    ∙ sym (file_chain c.args.rows.now.image.now c.args.rows.now.ids.now c.args.rows.now.spots.now v rows c.args.file c.in_ok-last.last c.owned_count-n.result
    (c.in_ok-last.ensures v rows) (c.owned_count-n.ensures.counted v rows) ∙ t.0)
