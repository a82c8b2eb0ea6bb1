use Rattle.std.proofs.Common.{◌≡◌, ℕ, List, length}
use Rattle.std.proofs.Math.Option.{some}
use Rattle.record_places.specs.Place.{by_place}
use Rattle.table_rows.specs.Table.{found}
use Rattle.file_read.specs.Reading.{chain_of}
use Rattle.file_read.specs.Follow.{Going}
use Rattle.file_read.proofs.follow.Given as goal

abbrev pub invariant-loop-end : goal.invariant-loop-end
invariant-loop-end l = (bs : List ℕ) → chain_of l.rows.image.now l.rows.ids.now l.rows.spots.now l.chain ≡ some bs
    → Going (by_place l.rows.image.now) (found (length l.rows.ids.now) l.rows.ids.now l.rows.spots.now) l.chain.file bs l.from l.chain.count l.initial.buffer l.id l.left l.end l.buffer

abbrev pub decreases-loop-end : goal.decreases-loop-end
decreases-loop-end l = l.left
