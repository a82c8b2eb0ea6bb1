use Rattle.std.proofs.Common.{length, arith}
use Rattle.volume_laws.specs.Steps.{all_asks, ask_passes, ask_fails, ask_ends}
use Rattle.area_list.specs.Described.{described_step, described_end}
use Rattle.area_list.specs.Good.{fits_at, header_at}
use Rattle.area_kinds.specs.Kinds.{id_same, id_differs}
use Rattle.area_kinds.proofs.GoodAreas.no_id.Goals as goal

pub area_id-requires : goal.area_id-requires
area_id-requires c =
    let f = fits_at (length c.args.self.now.image.now) c.args.self.now.starts.now c.args.self.now.spans.now c.args.self.now.good c.loop-start.start-index c.loop-start-test.true in
    omega arith

pub returns-then-area_id-id : goal.returns-then-area_id-id
returns-then-area_id-id c =
    ask_fails (all_asks _) c.loop-start.invariant (described_step _ _ _ c.args.self.now.good.pairs c.loop-start-test.true)
    (id_same _ _ _ c.area_id.ensures _ _ (header_at _ _ _ c.args.self.now.good _ c.loop-start-test.true) c.if-area_id-id.true)

pub loop-start-preserved : goal.loop-start-preserved
loop-start-preserved c =
    ask_passes (all_asks _) c.loop-start.invariant (described_step _ _ _ c.args.self.now.good.pairs c.loop-start-test.true)
    (id_differs _ _ _ c.area_id.ensures _ _ (header_at _ _ _ c.args.self.now.good _ c.loop-start-test.true) c.if-area_id-id.false)

pub returns : goal.returns
returns c = ask_ends (all_asks _) c.loop-start.invariant (described_end c.args.self.now.starts.now c.args.self.now.spans.now _ c.loop-start-test.false)
