use Rattle.std.proofs.Common.{sym, ◌∙◌}
use Rattle.format_laws.specs.Tests.{via}
use Rattle.path_names.specs.Segments.{good_ends, good_goes, good_stops}
use Rattle.path_names.proofs.good_segments.Goals as goal

pub returns-then-not-good_segment : goal.returns-then-not-good_segment
returns-then-not-good_segment c =
    sym (good_stops c.args.s.now c.loop-from.at c.segment_end-end.result c.loop-from.invariant.within c.segment_end-end.ensures
    (via c.good_segment.ensures c.if-not-good_segment.true))
    ∙ c.loop-from.invariant.same

pub returns-then-s-next : goal.returns-then-s-next
returns-then-s-next c =
    sym (good_ends c.args.s.now c.loop-from.at c.segment_end-end.result c.loop-from.invariant.within c.segment_end-end.ensures
    (via c.good_segment.ensures c.if-not-good_segment.false) c.if-s-next.true)
    ∙ c.loop-from.invariant.same

pub loop-from-preserved : goal.loop-from-preserved
loop-from-preserved c = record {
  within = c.if-s-next.false;
  same =
      sym (good_goes c.args.s.now c.loop-from.at c.segment_end-end.result c.loop-from.invariant.within c.segment_end-end.ensures
      (via c.good_segment.ensures c.if-not-good_segment.false) c.if-s-next.false)
      ∙ c.loop-from.invariant.same;
}
