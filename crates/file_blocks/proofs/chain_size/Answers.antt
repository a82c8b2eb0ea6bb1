use Rattle.std.proofs.Common.{◌≡◌, ◌∙◌, ◌+◌, ◌-◌, sym, arith, length}
use Rattle.record_places.specs.Place.{by_place}
use Rattle.table_rows.specs.Table.{found}
use Rattle.file_blocks.specs.Walk.{size_begins, size_step, size_broken, size_ended, own_lies, own_block}
use Rattle.file_blocks.proofs.chain_size.Goals as goal

pub loop-init : goal.loop-init
loop-init c =
    let z : c.args.count - 0 ≡ c.args.count = omega arith in
    record { small = omega arith; chain = rw z (sym (size_begins _ _)) }

pub returns-in_err-p-clause-told : goal.returns-in_err-p-clause-told
returns-in_err-p-clause-told c =
    let a = c.args in
    rw c.from_residual.ensures
    (sym (c.loop.invariant.chain
    ∙ size_broken (by_place a.rows.now.image.now) a.file (found (length a.rows.now.ids.now) a.rows.now.ids.now a.rows.now.spots.now) c.loop.size (a.count - c.loop.counter) c.loop.id
    (omega arith) c.in_err-p.ensures))

pub data_length-size-requires-clause-lies_2 : goal.data_length-size-requires-clause-lies_2
data_length-size-requires-clause-lies_2 c = own_lies c.requires.block_table c.args.file c.loop.id _ c.in_ok-p.ensures

pub data_length-size-requires-clause-p_value : goal.data_length-size-requires-clause-p_value
data_length-size-requires-clause-p_value c = own_block c.requires.block_table c.args.file c.loop.id _ c.in_ok-p.ensures

pub previous_at-id-requires : goal.previous_at-id-requires
previous_at-id-requires c = own_lies c.requires.block_table c.args.file c.loop.id _ c.in_ok-p.ensures

pub loop-preserved : goal.loop-preserved
loop-preserved c =
    let a = c.args in
    let z : a.count - (c.loop.counter + 1) ≡ a.count - c.loop.counter - 1 = omega arith in
    record {
      small = omega (arith, c.data_length-size.ensures.small);
      chain = rw z (c.loop.invariant.chain
          ∙ size_step (by_place a.rows.now.image.now) a.file (found (length a.rows.now.ids.now) a.rows.now.ids.now a.rows.now.spots.now) c.loop.size (a.count - c.loop.counter) c.loop.id
          c.in_ok-p.p c.data_length-size.result c.previous_at-id.result
          (omega arith) c.in_ok-p.ensures c.data_length-size.ensures.told c.previous_at-id.ensures);
    }

pub returns-clause-told : goal.returns-clause-told
returns-clause-told c =
    let a = c.args in
    rw c.then_some.ensures
    (size_ended (by_place a.rows.now.image.now) a.file (found (length a.rows.now.ids.now) a.rows.now.ids.now a.rows.now.spots.now) c.loop.size (a.count - c.loop.counter) c.loop.id (omega arith)
    ∙ sym c.loop.invariant.chain)
