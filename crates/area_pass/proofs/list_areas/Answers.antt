use Rattle.std.proofs.Common.{length-take, arith}
use Rattle.std.proofs.Math.Nat.{add-sub_cancel_left}
use Rattle.table_rows.specs.Parts.{part}
use Rattle.area_damage.specs.Damage.{none_is, joined_behind}
use Rattle.area_pass.specs.Areas.{through_ends}
use Rattle.area_pass.specs.Rows.{spans_at, going_begins, going_on, damage_whole, summable, room, inside, small}
use Rattle.area_pass.proofs.list_areas.Goals as goal

pub loop-i-init : goal.loop-i-init
loop-i-init c =
    going_begins c.args.image.now c.args.rows.now c.args.files c.args.places.now c.default-damage.result (none_is _ c.default-damage.ensures)

-- the area of a turn lies in the image
pub slice_bounds-list_area-end : goal.slice_bounds-list_area-end
slice_bounds-list_area-end c =
    let lies = inside _ _ _ _ c.loop-i.rows c.loop-i.places c.loop-i.count c.loop-i.damage c.loop-i.i c.requires c.loop-i.invariant c.loop-i-test.true in
    let size = small _ _ _ _ c.loop-i.rows c.loop-i.places c.loop-i.count c.loop-i.damage c.loop-i.i c.requires c.loop-i.invariant c.loop-i-test.true in
    omega arith

pub list_area-pass-requires : goal.list_area-pass-requires
list_area-pass-requires c = rw add-sub_cancel_left (room _ _ _ _ c.loop-i.rows c.loop-i.places c.loop-i.count c.loop-i.damage c.loop-i.i c.requires c.loop-i.invariant c.loop-i-test.true)

pub joined-damage-requires : goal.joined-damage-requires
joined-damage-requires c =
    summable _ _ _ _ c.loop-i.rows c.loop-i.places c.loop-i.count c.loop-i.damage c.loop-i.i c.requires c.loop-i.invariant c.loop-i-test.true
    c.list_area-pass.result.damage c.list_area-pass.result.free (rw add-sub_cancel_left at c.list_area-pass.ensures.read)

pub loop-i-preserved : goal.loop-i-preserved
loop-i-preserved c =
    going_on _ _ _ _ c.loop-i.rows c.loop-i.places c.loop-i.count c.loop-i.damage c.loop-i.i c.requires c.loop-i.invariant c.loop-i-test.true
    c.list_area-pass.new.places c.list_area-pass.result.count c.list_area-pass.result.damage c.list_area-pass.result.free c.joined-damage.result
    c.list_area-pass.auto.places (rw add-sub_cancel_left at c.list_area-pass.ensures.listed) (rw add-sub_cancel_left at c.list_area-pass.ensures.read)
    (joined_behind _ _ _ _ c.joined-damage.ensures)

pub returns-clause-listed : goal.returns-clause-listed
returns-clause-listed c =
    through_ends c.args.image.now (part 0 c.args.files c.args.rows.now) (part spans_at c.args.files c.args.rows.now) c.args.places.now
    c.loop-i.places c.loop-i.count c.loop-i.i c.requires.files_are c.loop-i.invariant.through (omega (arith, length-take c.args.files c.args.rows.now))

pub returns-clause-damage : goal.returns-clause-damage
returns-clause-damage c =
    damage_whole _ _ _ _ c.loop-i.rows c.loop-i.places c.loop-i.count c.loop-i.damage c.loop-i.i c.requires c.loop-i.invariant c.loop-i-test.false
