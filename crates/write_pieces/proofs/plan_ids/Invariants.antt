-- The first ids are taken, and marked beside those that the records name.
use Rattle.write_ids.specs.Window.{named_at}
use Rattle.write_pieces.specs.Laws.{Taking}
use Rattle.write_pieces.proofs.plan_ids.Given as goal

abbrev pub invariant-loop-id : goal.invariant-loop-id
invariant-loop-id l = Taking (named_at l.image l.records) l.initial.words l.fn.ids l.words l.ids l.id-index
