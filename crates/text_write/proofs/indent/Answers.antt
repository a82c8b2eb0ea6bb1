-- One more space is written at each turn.
use Rattle.std.proofs.Common.{◌-◌, ◌≡◌, arith}
use Rattle.std.proofs.lemmas.List.{length-replicate}
use Rattle.text_write.specs.Clip.{toward_space, toward_ends}
use Rattle.text_write.proofs.indent.Goals as goal

pub loop-i-preserved : goal.loop-i-preserved
loop-i-preserved c = toward_space c.loop-i.invariant c.loop-i-test.true _ c.push.ensures.written _ (omega arith)

pub returns : goal.returns
returns c =
    let none : c.args.n - c.loop-i.i ≡ 0 = omega arith in
    record {
      goes_on = rw length-replicate;
      written = toward_ends c.loop-i.invariant (rw none);
    }
