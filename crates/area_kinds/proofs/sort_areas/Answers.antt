use Rattle.std.proofs.Common.{arith}
use Rattle.format_laws.specs.Tests.{via}
use Rattle.area_kinds.specs.Kinds.{sorting_begins, sorting_file, sorting_scratch, sorting_passes, sorting_ends, area_good}
use Rattle.area_kinds.proofs.sort_areas.Goals.{in-File, in-Scratch, in-Invalid}
use Rattle.area_kinds.proofs.sort_areas.Goals as goal

pub loop-i-init : goal.loop-i-init
loop-i-init c = sorting_begins c.args.image.now c.args.pairs.now c.args.rows.now

pub area_kind-requires : goal.area_kind-requires
area_kind-requires c =
    rw c.area_at-area.ensures
    (area_good c.args.image.now c.args.pairs.now c.args.rows.now c.loop-i.rows c.loop-i.files c.loop-i.scratch c.loop-i.i c.loop-i.invariant c.requires (omega arith))

pub loop-i-preserved : goal.loop-i-preserved
loop-i-preserved c =
    elim c.match-area_kind.branch [
      | in-File w ↦ rw (w.rows-is, w.files-is, w.scratch-is, c.area_at-area.ensures) (sorting_file c.args.image.now c.args.pairs.now c.args.rows.now c.loop-i.rows c.loop-i.files c.loop-i.scratch c.loop-i.i c.loop-i.invariant c.requires (omega arith) (rw c.area_at-area.ensures at (via c.area_kind.ensures w.in-File.is)))
      | in-Scratch w ↦ rw (w.rows-is, w.files-is, w.scratch-is, w.with-scratch.ensures, c.area_at-area.ensures) (sorting_scratch c.args.image.now c.args.pairs.now c.args.rows.now c.loop-i.rows c.loop-i.files c.loop-i.scratch c.loop-i.i c.loop-i.invariant c.requires (omega arith) (rw c.area_at-area.ensures at (via c.area_kind.ensures w.in-Scratch.is)))
      | in-Invalid w ↦ rw (w.rows-is, w.files-is, w.scratch-is) (sorting_passes c.args.image.now c.args.pairs.now c.args.rows.now c.loop-i.rows c.loop-i.files c.loop-i.scratch c.loop-i.i c.loop-i.invariant c.requires (omega arith) (rw c.area_at-area.ensures at (via c.area_kind.ensures w.in-Invalid.is)))
    ]

pub returns : goal.returns
returns c =
    sorting_ends c.args.image.now c.args.pairs.now c.args.rows.now c.loop-i.rows c.loop-i.files c.loop-i.scratch c.loop-i.i c.loop-i.invariant c.requires (omega arith)
