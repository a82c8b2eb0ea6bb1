-- What is left of the bytes leads on to the register of all of them.
use Rattle.std.proofs.Common.{◌≡◌, ◌*◌, drop}
use Rattle.format.specs.Crc.{crc_over}
use Rattle.byte_crc16.proofs.two_a_turn.Given as goal

abbrev pub invariant-loop-b : goal.invariant-loop-b
invariant-loop-b l = crc_over l.r (drop (2 * l.b-index) l.s) ≡ crc_over l.start l.s

abbrev pub invariant-loop-b-2 : goal.invariant-loop-b-2
invariant-loop-b-2 l = crc_over l.r (drop l.b-index l.rest) ≡ crc_over l.start l.s
