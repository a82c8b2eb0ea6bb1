use Rattle.std.proofs.Common.{drop, length-drop, arith}
use Rattle.format.specs.AreaHeader.{area_header_size}
use Rattle.format_laws.specs.Bytes.{rest_part}
use Rattle.format_laws.specs.Reading.{erased_end_le}
use Rattle.format_laws.specs.Tests.{via}
use Rattle.area_damage.specs.Damage.{none_is, stretch_behind}
use Rattle.area_erased.specs.Erased.{ended}
use Rattle.area_read.specs.Laws.{next_none, next_law}
use Rattle.area_pass.specs.Laws.{has_room}
use Rattle.area_pass.specs.Laws.{going_begins, going_on, going_ends}
use Rattle.area_pass.specs.Reading.{read_begins, read_on, read_ends, fewer}
use Rattle.area_pass.proofs.list_area.Goals as goal

pub overflow_sub-written : goal.overflow_sub-written
overflow_sub-written c =
    let area = c.args.area.now in
    omega (arith, rw (rest_part area area_header_size) at c.erased_end.ensures, erased_end_le (drop area_header_size area), length-drop area_header_size area)

pub loop-next-init : goal.loop-next-init
loop-next-init c = (
  going_begins c.args.area.now c.args.base c.args.places.now c.args.n c.requires,
  read_begins c.args.area.now c.args.stretch c.default-damage.result c.requires.header (none_is _ c.default-damage.ensures _),
)

-- what is written of the area ends, from where the loop has come to, where it was found before it
pub next_record-requires : goal.next_record-requires
next_record-requires c =
    let r = c.loop-next.invariant.1 in
    (ended c.args.area.now area_header_size c.loop-next.at c.erased_end.result r.started r.within (rw (rest_part c.args.area.now area_header_size) at c.erased_end.ensures)).written_to

pub overflow_sub-next : goal.overflow_sub-next
overflow_sub-next c = (next_law c.args.area.now c.loop-next.at c.in-Some.next c.loop-next.invariant.0.within c.in-Some.ensures).after

pub with_stretch-damage-requires : goal.with_stretch-damage-requires
with_stretch-damage-requires c =
    let n = next_law c.args.area.now c.loop-next.at c.in-Some.next c.loop-next.invariant.0.within c.in-Some.ensures in
    let i = c.requires.inside in
    fewer c.args.area.now c.args.stretch c.loop-next.at c.loop-next.damage c.loop-next.invariant.1 (omega arith) _ _ (omega arith)

pub overflow_add-places : goal.overflow_add-places
overflow_add-places c =
    let n = next_law c.args.area.now c.loop-next.at c.in-Some.next c.loop-next.invariant.0.within c.in-Some.ensures in
    omega arith

pub overflow_cast-places : goal.overflow_cast-places
overflow_cast-places c =
    let n = next_law c.args.area.now c.loop-next.at c.in-Some.next c.loop-next.invariant.0.within c.in-Some.ensures in
    omega arith

pub bounds-places-count : goal.bounds-places-count
bounds-places-count c =
    let n = next_law c.args.area.now c.loop-next.at c.in-Some.next c.loop-next.invariant.0.within c.in-Some.ensures in
    has_room c.args.area.now c.args.base c.args.places.now c.args.n c.loop-next.places c.loop-next.count c.loop-next.at c.loop-next.invariant.0 c.requires c.in-Some.next n

pub overflow_add-at : goal.overflow_add-at
overflow_add-at c =
    let n = next_law c.args.area.now c.loop-next.at c.in-Some.next c.loop-next.invariant.0.within c.in-Some.ensures in
    omega arith

pub loop-next-smaller : goal.loop-next-smaller
loop-next-smaller c =
    let n = next_law c.args.area.now c.loop-next.at c.in-Some.next c.loop-next.invariant.0.within c.in-Some.ensures in
    omega arith

pub loop-next-preserved : goal.loop-next-preserved
loop-next-preserved c =
    let n = next_law c.args.area.now c.loop-next.at c.in-Some.next c.loop-next.invariant.0.within c.in-Some.ensures in (
      going_on c.args.area.now c.args.base c.args.places.now c.args.n c.loop-next.places c.loop-next.count c.loop-next.at c.loop-next.invariant.0 c.requires c.in-Some.next n,
      read_on c.args.area.now c.args.stretch c.loop-next.at c.loop-next.damage c.loop-next.invariant.1 c.in-Some.next c.in-Some.ensures c.with_stretch-damage.result
          (λ m q. stretch_behind _ _ _ _ m q _ c.with_stretch-damage.ensures),
    )

-- free space starts no earlier than the place that the loop has come to, and in the area
pub with_stretch-damage-requires-2 : goal.with_stretch-damage-requires-2
with_stretch-damage-requires-2 c =
    let i = c.requires.inside in
    let r = c.loop-next.invariant.1 in
    fewer c.args.area.now c.args.stretch c.loop-next.at c.loop-next.damage r (omega arith) _ _ (omega (arith, r.within))

pub returns-clause-listed : goal.returns-clause-listed
returns-clause-listed c =
    going_ends c.args.area.now c.args.base c.args.places.now c.args.n c.loop-next.places c.loop-next.count c.loop-next.at c.loop-next.invariant.0
    (next_none c.args.area.now c.loop-next.at (via c.in_default.is c.next_record.ensures))

pub returns-clause-read : goal.returns-clause-read
returns-clause-read c =
    let r = c.loop-next.invariant.1 in
    let w = ended c.args.area.now area_header_size c.loop-next.at c.erased_end.result r.started r.within (rw (rest_part c.args.area.now area_header_size) at c.erased_end.ensures) in
    read_ends c.args.area.now c.args.stretch c.loop-next.at c.loop-next.damage r (via c.in_default.is c.next_record.ensures) c.max-free.result
    (omega arith) (omega (arith, r.within)) (rw c.max-free.ensures w.ends) c.with_stretch-damage-2.result (λ m q. stretch_behind _ _ _ _ m q _ c.with_stretch-damage-2.ensures)
