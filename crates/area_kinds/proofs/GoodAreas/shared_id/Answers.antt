use Rattle.std.proofs.Common.{not, length, sym, ap, ◌∙◌, arith}
use Rattle.format_laws.specs.Tests.{via}
use Rattle.volume_laws.specs.Steps.{ask_passes, ask_fails, ask_ends}
use Rattle.area_list.specs.Described.{described_step, described_end}
use Rattle.area_list.specs.Good.{fits_at, header_at}
use Rattle.area_list.specs.Steps.{pairs_ask}
use Rattle.area_kinds.specs.Kinds.{shared_pairs}
use Rattle.area_kinds.proofs.GoodAreas.shared_id.Goals as goal

pub area_id-requires : goal.area_id-requires
area_id-requires c =
    let s = c.args.self.now in
    let f = fits_at (length s.image.now) s.starts.now s.spans.now s.good c.loop-i.i c.loop-i-test.true in
    omega arith

-- what was asked is asked of the later areas
pub returns-then-not-no_id : goal.returns-then-not-no_id
returns-then-not-no_id c =
    let s = c.args.self.now in
    let e = rw (c.behind.ensures.image, c.behind.ensures.starts, c.behind.ensures.spans, c.area_id.ensures.is _ (header_at _ _ _ s.good _ c.loop-i-test.true)) at c.no_id.ensures in
    ap not (ask_fails (pairs_ask _) c.loop-i.invariant (described_step _ _ _ s.good.pairs c.loop-i-test.true) (via e c.if-not-no_id.true)) ∙ sym (shared_pairs _ _)

pub loop-i-preserved : goal.loop-i-preserved
loop-i-preserved c =
    let s = c.args.self.now in
    let e = rw (c.behind.ensures.image, c.behind.ensures.starts, c.behind.ensures.spans, c.area_id.ensures.is _ (header_at _ _ _ s.good _ c.loop-i-test.true)) at c.no_id.ensures in
    ask_passes (pairs_ask _) c.loop-i.invariant (described_step _ _ _ s.good.pairs c.loop-i-test.true) (via e c.if-not-no_id.false)

pub returns : goal.returns
returns c =
    let s = c.args.self.now in
    ap not (ask_ends (pairs_ask _) c.loop-i.invariant (described_end s.starts.now s.spans.now _ c.loop-i-test.false)) ∙ sym (shared_pairs _ _)
