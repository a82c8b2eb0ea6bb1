-- What is left of the bytes leads on to the register of all of them.
use Rattle.std.proofs.Common.{◌≡◌, ◌*◌, drop}
use Rattle.format.specs.Crc.{crc_over}
use Rattle.byte_crc16.proofs.over.Given as goal

abbrev pub invariant-loop-b : goal.invariant-loop-b
invariant-loop-b l = crc_over l.r (drop (4 * l.b-index) l.s) ≡ crc_over l.start l.s
