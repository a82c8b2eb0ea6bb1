-- What is written so far and the rest of the name make the whole.
use Rattle.std.proofs.Common.{◌+◌, drop}
use Rattle.volume.specs.Listing.{printed}
use Rattle.text_write.specs.Clip.{Toward}
use Rattle.text_write.proofs.print.Given as goal

abbrev pub invariant-loop-i : goal.invariant-loop-i
invariant-loop-i l = Toward l.initial.text l.at (printed l.name) l.text (l.at + l.i) (printed (drop l.i l.name))
