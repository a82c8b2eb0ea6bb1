use Rattle.std.proofs.Common.{arith}
use Rattle.collect_stores.specs.Moving.{moving_begins, moving_lies, moving_room, moving_apart, moving_on, moving_ends}
use Rattle.collect_stores.proofs.copy_records.Goals as goal

pub loop-place-init : goal.loop-place-init
loop-place-init c = moving_begins _ _ _

pub size_at-size-requires : goal.size_at-size-requires
size_at-size-requires c = rw c.from-p.ensures (moving_lies _ _ _ _ _ _ c.loop-place.invariant c.requires c.loop-place-test.true)

pub copy-requires : goal.copy-requires
copy-requires c = rw (c.size_at-size.ensures, c.from-p.ensures) (moving_room _ _ _ _ _ _ c.loop-place.invariant c.requires c.loop-place-test.true)

pub overflow_add-at : goal.overflow_add-at
overflow_add-at c =
    let size = rw c.from-p.ensures at c.size_at-size.ensures in
    let room = moving_room _ _ _ _ _ _ c.loop-place.invariant c.requires c.loop-place-test.true in
    omega (arith, room.1, size, c.loop-place.invariant.long)

pub loop-place-preserved : goal.loop-place-preserved
loop-place-preserved c =
    let size = rw c.from-p.ensures at c.size_at-size.ensures in
    let apart = moving_apart _ _ _ _ _ _ c.loop-place.invariant c.requires c.loop-place-test.true in
    let copied = rw (c.from-p.ensures, size) at c.copy.ensures in
    rw (copied apart, size) (moving_on _ _ _ _ _ _ c.loop-place.invariant c.requires c.loop-place-test.true)

pub returns : goal.returns
returns c = moving_ends _ _ _ _ _ _ c.loop-place.invariant c.requires c.loop-place-test.false
