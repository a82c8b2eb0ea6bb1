use Rattle.std.proofs.Common.{◌≡◌, ◌∙◌, ◌+◌, ◌-◌, sym, ap, arith, length}
use Rattle.volume.specs.Fate.{fate_within}
use Rattle.record_places.specs.Place.{by_place}
use Rattle.table_rows.specs.Table.{found}
use Rattle.inode_fate.specs.Fates.{meaning}
use Rattle.inode_fate.specs.Laws.{up_loops, up_ends, up_on}
use Rattle.inode_fate.proofs.fate_of.Goals as goal

pub loop-init : goal.loop-init
loop-init c =
    ap (λ k. fate_within (by_place c.args.rows.now.image.now) (found (length c.args.rows.now.ids.now) c.args.rows.now.ids.now c.args.rows.now.spots.now) k c.args.id) (omega arith)

pub returns-in-Break : goal.returns-in-Break
returns-in-Break c =
    let a = c.args in
    sym (up_ends (by_place a.rows.now.image.now) (λ f. f) (λ r f. f) (found (length a.rows.now.ids.now) a.rows.now.ids.now a.rows.now.spots.now) (length a.rows.now.ids.now - c.loop.counter) c.loop.at
    (omega arith) (meaning c.in-Break.fate) c.in-Break.ensures) ∙ c.loop.invariant

pub loop-preserved : goal.loop-preserved
loop-preserved c =
    let a = c.args in
    let on = up_on (by_place a.rows.now.image.now) (λ f. f) (λ r f. f) (found (length a.rows.now.ids.now) a.rows.now.ids.now a.rows.now.spots.now) (length a.rows.now.ids.now - c.loop.counter) c.loop.at
    (omega arith) c.in-Continue.parent c.in-Continue.ensures in
    let less : length a.rows.now.ids.now - (c.loop.counter + 1) ≡ length a.rows.now.ids.now - c.loop.counter - 1 = omega arith in
    rw less (sym on.2 ∙ c.loop.invariant)

pub returns : goal.returns
returns c =
    let a = c.args in
    sym (up_loops (by_place a.rows.now.image.now) (λ f. f) (λ r f. f) (found (length a.rows.now.ids.now) a.rows.now.ids.now a.rows.now.spots.now) (length a.rows.now.ids.now - c.loop.counter) c.loop.at
    (omega arith)) ∙ c.loop.invariant
