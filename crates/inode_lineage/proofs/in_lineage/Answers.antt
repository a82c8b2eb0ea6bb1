use Rattle.std.proofs.Common.{◌≡◌, ◌∙◌, ◌+◌, ◌-◌, sym, ap, arith, length}
use Rattle.volume_laws.specs.Climb.{chain_within}
use Rattle.record_places.specs.Place.{by_place}
use Rattle.calls.specs.Storing.{is_among}
use Rattle.table_rows.specs.Table.{found}
use Rattle.inode_fate.specs.Fates.{meaning}
use Rattle.inode_lineage.specs.Lineage.{chain_here, chain_loops, chain_ends, chain_on}
use Rattle.inode_lineage.proofs.in_lineage.Goals as goal

pub loop-init : goal.loop-init
loop-init c =
    let a = c.args in
    ap (λ k. is_among a.sought (chain_within (by_place a.rows.now.image.now) (found (length a.rows.now.ids.now) a.rows.now.ids.now a.rows.now.spots.now) k a.id)) (omega arith)

pub returns-then-at-sought : goal.returns-then-at-sought
returns-then-at-sought c =
    let a = c.args in
    sym (chain_here (by_place a.rows.now.image.now) (found (length a.rows.now.ids.now) a.rows.now.ids.now a.rows.now.spots.now) (length a.rows.now.ids.now - c.loop.counter) c.loop.at a.sought
    c.if-at-sought.true) ∙ c.loop.invariant

pub returns-in_default : goal.returns-in_default
returns-in_default c =
    let a = c.args in
    sym (chain_ends (by_place a.rows.now.image.now) (found (length a.rows.now.ids.now) a.rows.now.ids.now a.rows.now.spots.now) (length a.rows.now.ids.now - c.loop.counter) c.loop.at a.sought
    c.if-at-sought.false (omega arith) (meaning c.in_default.field-0) c.in_default.ensures) ∙ c.loop.invariant

pub loop-preserved : goal.loop-preserved
loop-preserved c =
    let a = c.args in
    let less : length a.rows.now.ids.now - (c.loop.counter + 1) ≡ length a.rows.now.ids.now - c.loop.counter - 1 = omega arith in
    rw less
    (sym (chain_on (by_place a.rows.now.image.now) (found (length a.rows.now.ids.now) a.rows.now.ids.now a.rows.now.spots.now) (length a.rows.now.ids.now - c.loop.counter) c.loop.at a.sought
    c.if-at-sought.false (omega arith) c.in-Continue.parent c.in-Continue.ensures) ∙ c.loop.invariant)

pub returns : goal.returns
returns c =
    let a = c.args in
    sym (chain_loops (by_place a.rows.now.image.now) (found (length a.rows.now.ids.now) a.rows.now.ids.now a.rows.now.spots.now) (length a.rows.now.ids.now - c.loop.counter) c.loop.at a.sought
    (omega arith)) ∙ c.loop.invariant
