-- What an answer of the code says in the words of the definitions, which have an `Option` of their own.
use Rattle.std.specs.Prelude.{Option, None, Some}
use Rattle.std.proofs.Math.Option.{Option as Maybe, none, some}

abbrev pub meant : {A : Type 0} → Option A → Maybe A
meant None = none
meant (Some x) = some x
