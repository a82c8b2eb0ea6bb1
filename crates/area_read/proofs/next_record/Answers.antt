use Rattle.std.proofs.Common.{◌+◌, ◌<◌, length, sym, ◌∙◌, arith}
use Rattle.format_laws.specs.Bytes.{rest_part}
use Rattle.area_read.specs.Laws.{next_here, next_passes, next_onward, next_unwritten}
use Rattle.area_read.proofs.next_record.Goals as goal

pub returns-then-size-ne0 : goal.returns-then-size-ne0
returns-then-size-ne0 c =
    let area = c.args.area.now in
    let s = rw (rest_part area c.loop-at.at) at c.record_size-size.ensures in
    rw (← s) at (sym (next_here area c.loop-at.at (omega arith) (λ z. c.if-size-ne0.true (s ∙ z))) ∙ c.loop-at.invariant.0)

pub loop-at-preserved : goal.loop-at-preserved
loop-at-preserved c =
    let area = c.args.area.now in
    let s = rw (rest_part area c.loop-at.at) at c.record_size-size.ensures in
    let h : c.loop-at.at < length area = omega arith in (
      sym (next_passes area c.loop-at.at h (sym s ∙ c.if-size-ne0.false) ∙ next_onward area (c.loop-at.at + 1) _ (omega arith) c.next_magic-at.ensures) ∙ c.loop-at.invariant.0,
      c.next_magic-at.ensures.within (omega arith),
    )

pub returns : goal.returns
returns c = sym (next_unwritten c.args.area.now c.args.from c.args.written c.loop-at.at c.requires c.loop-at-test.false c.loop-at.invariant.1) ∙ c.loop-at.invariant.0
