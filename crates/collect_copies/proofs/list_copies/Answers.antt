use Rattle.std.proofs.Common.{sym, ◌∙◌, length-take, drop, arith}
use Rattle.mount_state.specs.State.{inode_ids_at, block_ids_at}
use Rattle.collect_copies.specs.Loops.{choosing_begins, choosing_lie, choosing_ends, choosing_passes, choosing_again, choosing_room, choosing_takes}
use Rattle.collect_copies.proofs.list_copies.Goals as goal
use Rattle.collect_copies.proofs.list_copies.Goals.{
  then-is_copied+then-is_new,
  else-is_copied,
  else-is_copied-via-then-is_copied+else-is_new,
  else-is_copied-via-else-is_copied,
}

pub loop-place-init : goal.loop-place-init
loop-place-init c = choosing_begins _ _ _ _ _ _

pub is_new-requires-clause-all_lie : goal.is_new-requires-clause-all_lie
is_new-requires-clause-all_lie c = choosing_lie _ _ _ _ _ _ _ _ _ c.loop-place.invariant c.requires.lie

pub bounds-copies-k : goal.bounds-copies-k
bounds-copies-k c =
    let passes = rw c.from-p.ensures at (sym c.is_copied.ensures ∙ c.if-is_copied.true) in
    let first = rw c.from-p.ensures at (sym c.is_new.ensures ∙ c.if-is_new.true) in
    let inodes = length-take c.args.inodes (drop inode_ids_at c.args.tables.now) in
    let blocks = length-take c.args.blocks (drop block_ids_at c.args.tables.now) in
    choosing_room _ _ _ _ _ _ _ _ _ c.loop-place.invariant c.loop-place-test.true passes first
    (omega (arith, inodes, blocks, c.requires.rows.inodes_few, c.requires.rows.blocks_few, c.requires.room))

pub loop-place-preserved : goal.loop-place-preserved
loop-place-preserved c = elim c.if-is_copied.branch [
  | then-is_copied+then-is_new w ↦
      let passes = rw c.from-p.ensures at (sym c.is_copied.ensures ∙ w.if-is_copied.true) in
      let first = rw c.from-p.ensures at (sym w.is_new.ensures ∙ w.if-is_new.true) in
      let inodes = length-take c.args.inodes (drop inode_ids_at c.args.tables.now) in
      let blocks = length-take c.args.blocks (drop block_ids_at c.args.tables.now) in
      let room = choosing_room _ _ _ _ _ _ _ _ _ c.loop-place.invariant c.loop-place-test.true passes first
      (omega (arith, inodes, blocks, c.requires.rows.inodes_few, c.requires.rows.blocks_few, c.requires.room)) in
      rw (w.copies-is, w.k-is) (choosing_takes _ _ _ _ _ _ _ _ _ c.loop-place.invariant c.loop-place-test.true passes first room)
  | else-is_copied w ↦ rw (w.copies-is, w.k-is) (elim w.else-is_copied.branch [
    | else-is_copied-via-then-is_copied+else-is_new u ↦
        choosing_again _ _ _ _ _ _ _ _ _ c.loop-place.invariant c.loop-place-test.true (rw c.from-p.ensures at (sym c.is_copied.ensures ∙ u.if-is_copied.true))
        (rw c.from-p.ensures at (sym u.is_new.ensures ∙ u.if-is_new.false))
    | else-is_copied-via-else-is_copied u ↦
        choosing_passes _ _ _ _ _ _ _ _ _ c.loop-place.invariant c.loop-place-test.true (rw c.from-p.ensures at (sym c.is_copied.ensures ∙ u.if-is_copied.false))
  ])
]

pub returns : goal.returns
returns c =
    (omega (arith, c.loop-place.invariant.fits, c.loop-place.invariant.long, c.requires.room), choosing_ends _ _ _ _ _ _ _ _ _ c.loop-place.invariant c.loop-place-test.false)
