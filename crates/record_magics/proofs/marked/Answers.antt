-- The marks pass the test of all bytes.
use Rattle.std.proofs.Common.{refl}
use Rattle.record_magics.specs.Magic.{start_of, in_magic, Marks}
use Rattle.record_magics.specs.Laws.{all_below, bit_right, marks_of, bit_told}
use Rattle.record_magics.specs.declared.TheConstants.{MARKS}
use Rattle.record_magics.proofs.marked.Goals as goal

right : Marks MARKS
unfolding all_below bit_right in_magic start_of
right = marks_of MARKS refl refl

pub returns : goal.returns
returns c = rw c.from-place.ensures (bit_told MARKS right c.args.b c.ranges.b.fits)
