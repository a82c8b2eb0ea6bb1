use Rattle.std.proofs.Common.{arith}
use Rattle.format_laws.specs.Tests.{via}
use Rattle.call_format.specs.Areas.{writing_begins, writing_room, writing_scratch, writing_file, writing_ends}
use Rattle.call_format.proofs.write_areas.Goals as goal
use Rattle.call_format.proofs.write_areas.Goals.{then-scratch, else-scratch}

pub loop-i-init : goal.loop-i-init
loop-i-init c = writing_begins _ _ _

pub write_area-requires : goal.write_area-requires
write_area-requires c = rw c.area_at-area.ensures (writing_room _ _ _ _ _ _ c.loop-i.invariant c.requires (omega arith))

pub loop-i-preserved : goal.loop-i-preserved
loop-i-preserved c =
    elim c.if-scratch.branch [
      | then-scratch w ↦
          rw (w.placed-is, c.write_area.ensures, c.next_id-id.ensures, w.if-scratch.true, c.area_at-area.ensures)
          (writing_scratch _ _ _ _ _ _ c.loop-i.invariant c.requires (omega arith)
          (rw c.area_at-area.ensures at (via c.is_scratch-scratch.ensures w.if-scratch.true)))
      | else-scratch w ↦
          rw (w.placed-is, c.write_area.ensures, c.next_id-id.ensures, w.if-scratch.false, c.area_at-area.ensures)
          (writing_file _ _ _ _ _ _ c.loop-i.invariant c.requires (omega arith)
          (rw c.area_at-area.ensures at (via c.is_scratch-scratch.ensures w.if-scratch.false)))
    ]

pub returns : goal.returns
returns c = writing_ends _ _ _ _ _ _ c.loop-i.invariant c.requires (omega arith)
