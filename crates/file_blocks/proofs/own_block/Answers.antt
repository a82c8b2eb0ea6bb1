use Rattle.std.proofs.Common.{length}
use Rattle.record_places.specs.Place.{by_place}
use Rattle.table_rows.specs.Table.{found}
use Rattle.file_blocks.specs.Walk.{block_absent, block_owned}
use Rattle.file_blocks.proofs.own_block.Goals as goal

pub returns-in_err-p : goal.returns-in_err-p
returns-in_err-p c =
    let a = c.args in
    rw c.from_residual.ensures (block_absent (by_place a.rows.now.image.now) a.file (found (length a.rows.now.ids.now) a.rows.now.ids.now a.rows.now.spots.now) a.id c.in_err-p.ensures)

pub returns : goal.returns
returns c =
    let a = c.args in
    rw (c.then_some.ensures, c.is_mine.ensures)
    (block_owned (by_place a.rows.now.image.now) a.file (found (length a.rows.now.ids.now) a.rows.now.ids.now a.rows.now.spots.now) a.id c.in_ok-p.p c.in_ok-p.ensures)
