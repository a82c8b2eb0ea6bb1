use Rattle.std.proofs.Common.{length}
use Rattle.table_rows.specs.Table.{found}
use Rattle.file_list.specs.Listing.{Listing}
use Rattle.file_list.proofs.list_chain.Given as goal

abbrev pub invariant-loop-k : goal.invariant-loop-k
invariant-loop-k l = Listing l.rows.image.now (found (length l.rows.ids.now) l.rows.ids.now l.rows.spots.now) l.file (length l.initial.blocks) l.start l.id l.k l.size l.blocks l.sizes
