-- The ends among the rows that are passed.
use Rattle.record_places.specs.Place.{by_place}
use Rattle.std.proofs.Common.{take}
use Rattle.volume.specs.Lists.{keep}
use Rattle.file_blocks.specs.Blocks.{is_end}
use Rattle.file_blocks.specs.Rows.{OneEnd}
use Rattle.file_blocks.proofs.last_block.Given as goal

abbrev pub invariant-loop-p : goal.invariant-loop-p
invariant-loop-p l = OneEnd (by_place l.rows.image.now) l.end (keep (is_end (by_place l.rows.image.now) l.file l.rows.spots.now) (take l.p-index l.rows.spots.now))
