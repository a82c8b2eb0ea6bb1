use Rattle.std.proofs.Common.{refl}
use Rattle.table_index.specs.Index.{slot_of}
use Rattle.table_index.proofs.slot_of.Goals as goal

pub returns : goal.returns
unfolding slot_of
returns c = refl
