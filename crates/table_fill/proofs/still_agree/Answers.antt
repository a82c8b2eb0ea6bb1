use Rattle.std.proofs.Common.{◌≡◌, ◌∙◌, ◌-◌, sym, arith, take, get_or}
use Rattle.record_places.specs.Place.{by_place}
use Rattle.table_index.specs.Laws.{slot_within}
use Rattle.table_fill.specs.Agreement.{places_equivalent, disagree_more, agree_more, twin_decides}
use Rattle.table_fill.specs.Twins.{walk_twins, no_twin_agrees}
use Rattle.table_fill.proofs.Laws.{get_d_in}
use Rattle.table_fill.proofs.still_agree.Goals as goal

pub returns-then-not-agreed : goal.returns-then-not-agreed
returns-then-not-agreed c =
    let image = c.args.image.now in
    sym (disagree_more (by_place image) (places_equivalent image) (take c.args.n c.args.places.now) c.args.p (cc))

pub newest-k-requires : goal.newest-k-requires
newest-k-requires c = (rw c.twin_slot.ensures (slot_within _), omega arith)

pub loop-k-init : goal.loop-k-init
loop-k-init c =
    rw (c.newest-k.ensures, c.twin_slot.ensures)
    (walk_twins c.args.image.now c.args.places.now c.args.twins.now c.args.n c.requires.twin_index c.args.p)

pub returns-then-are_twins : goal.returns-then-are_twins
returns-then-are_twins c =
    let image = c.args.image.now in
    let places = c.args.places.now in
    let k = c.loop-k.k - 1 in
    let d = twin_decides (by_place image) (places_equivalent image) (take c.args.n places) c.args.p (get_or places k 0)
    (cc) (get_d_in c.args.n places k (omega arith) c.requires.n_in_bounds) (rw c.from-q.ensures at (sym c.are_twins.ensures ∙ c.if-are_twins.true)) in
    rw c.from-q.ensures at c.same_bytes.ensures ∙ sym d

pub returns : goal.returns
returns c =
    let image = c.args.image.now in
    let z : c.loop-k.k ≡ 0 = omega arith in
    sym (agree_more (by_place image) (places_equivalent image) (take c.args.n c.args.places.now) c.args.p (cc)
    ∙ no_twin_agrees image c.args.places.now c.args.n c.args.p c.requires.n_in_bounds (rw z at c.loop-k.invariant))
