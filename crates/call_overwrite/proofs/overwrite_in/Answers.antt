use Rattle.std.proofs.Common.{refl, sym, length-take-le, arith}
use Rattle.area_pass.specs.Bridge.{placed_volume}
use Rattle.call_overwrite.specs.Written.{rows_sizes}
use Rattle.call_overwrite.specs.Outcome.{in_broken, in_past, all_placed, in_written}
use Rattle.call_overwrite.proofs.overwrite_in.Goals as goal

pub returns-in_default : goal.returns-in_default
returns-in_default c =
    let a = c.args in
    let r = c.block_rows-rows.ensures in
    let told = rw (r.image, r.ids, r.spots) at c.in_default.ensures.told in
    λ ds h d. in_broken a.image.now ds a.offset a.text.now a.file d (sym (told (placed_volume a.image.now ds) h.blocks))

pub returns-then-to-size : goal.returns-then-to-size
returns-then-to-size c =
    let held = rw c.block_rows-rows.ensures.image at c.in-Some.ensures.held in
    let a = c.args in
    let r = c.block_rows-rows.ensures in
    let told = rw (r.image, r.ids, r.spots) at c.in-Some.ensures.told in
    λ ds h d.
    in_past a.image.now ds a.offset a.text.now a.file d _ (sym (told (placed_volume a.image.now ds) h.blocks))
    (omega (arith, held.sized, c.if-to-size.true))

pub write_range-requires-clause-listed : goal.write_range-requires-clause-listed
write_range-requires-clause-listed c =
    let held = rw c.block_rows-rows.ensures.image at c.in-Some.ensures.held in
    held.listed

pub write_range-requires-clause-sizes : goal.write_range-requires-clause-sizes
write_range-requires-clause-sizes c =
    let held = rw c.block_rows-rows.ensures.image at c.in-Some.ensures.held in
    (rows_sizes c.requires.safe c.in-Some.total.blocks c.in-Some.total.bytes _ _ held).0

pub write_range-requires-clause-sizes_len_bound : goal.write_range-requires-clause-sizes_len_bound
write_range-requires-clause-sizes_len_bound c =
    let held = rw c.block_rows-rows.ensures.image at c.in-Some.ensures.held in
    let z = rows_sizes c.requires.safe c.in-Some.total.blocks c.in-Some.total.bytes _ _ held in
    let n = length-take-le c.in-Some.total.blocks c.list_file.new.sizes (omega (arith, held.few, c.list_file.auto.sizes)) in
    (omega (arith, n, held.few), refl, omega (arith, z.1, c.if-to-size.false))

pub slice_bounds-blocks-end : goal.slice_bounds-blocks-end
slice_bounds-blocks-end c = omega (arith, c.in-Some.ensures.held.few, c.list_file.auto.blocks)

pub slice_bounds-sizes-end : goal.slice_bounds-sizes-end
slice_bounds-sizes-end c = omega (arith, c.in-Some.ensures.held.few, c.list_file.auto.sizes)

pub returns : goal.returns
returns c =
    let held = rw c.block_rows-rows.ensures.image at c.in-Some.ensures.held in
    let a = c.args in
    let r = c.block_rows-rows.ensures in
    let told = rw (r.image, r.ids, r.spots) at c.in-Some.ensures.told in
    λ ds h d.
    let b = sym (told (placed_volume a.image.now ds) h.blocks) in
    in_written a.image.now ds a.offset a.text.now a.file d _ b (omega (arith, held.sized, c.if-to-size.false)) _ _
    (c.write_range.ensures ds h (all_placed a.image.now ds a.offset a.text.now a.file d _ b))
