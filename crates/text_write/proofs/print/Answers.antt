-- One more byte of the name is written at each turn.
use Rattle.std.proofs.Common.{ap, drop_of_length-le, arith}
use Rattle.std.proofs.lemmas.List.{length-map}
use Rattle.volume.specs.Listing.{printed}
use Rattle.text_write.specs.Clip.{toward_glyph, toward_ends}
use Rattle.text_write.proofs.print.Goals as goal

pub loop-i-preserved : goal.loop-i-preserved
loop-i-preserved c =
    toward_glyph c.loop-i.i c.args.name.now c.loop-i.invariant c.loop-i-test.true _ c.glyph.ensures _ c.push.ensures.written _ (omega arith)

pub returns : goal.returns
returns c = record {
  goes_on = rw length-map;
  written = toward_ends c.loop-i.invariant (ap printed (drop_of_length-le c.args.name.now c.loop-i-test.false));
}
