use Rattle.std.proofs.Common.{arith, refl}
use Rattle.volume.specs.Lists.{keep}
use Rattle.record_places.specs.Place.{by_place}
use Rattle.file_blocks.specs.Rows.{end_not, end_first, end_second, ends_all}
use Rattle.file_blocks.proofs.last_block.Goals as goal
use Rattle.file_blocks.proofs.last_block.Goals.{then-is_end+else-is_some, else-is_end}

pub loop-p-init : goal.loop-p-init
unfolding keep
loop-p-init c = refl

pub returns-then-is_some : goal.returns-then-is_some
returns-then-is_some c = λ v rows.
    end_second (by_place c.args.rows.now.image.now) c.args.file c.args.rows.now.spots.now v c.args.rows.now.ids.now rows c.args.rows.now.usable.pairs c.loop-p.p-index (omega arith) (cc) c.loop-p.end (cc) c.loop-p.invariant

pub loop-p-preserved : goal.loop-p-preserved
loop-p-preserved c =
    let F = by_place c.args.rows.now.image.now in
    elim c.if-is_end.branch [
      | then-is_end+else-is_some w ↦ rw w.end-is
          (end_first F c.args.file c.args.rows.now.spots.now c.loop-p.p-index (omega arith) (cc) c.loop-p.end (cc) c.loop-p.invariant w.id_at.result w.id_at.ensures)
      | else-is_end w ↦ rw w.end-is (end_not F c.args.file c.args.rows.now.spots.now c.loop-p.p-index (omega arith) (cc) c.loop-p.end c.loop-p.invariant)
    ]

pub returns : goal.returns
returns c = λ v rows.
    rw c.unwrap_or.ensures
    (ends_all (by_place c.args.rows.now.image.now) c.args.file c.args.rows.now.spots.now v c.args.rows.now.ids.now rows c.args.rows.now.usable.pairs c.loop-p.p-index (omega arith) c.loop-p.end c.loop-p.invariant)
