use Rattle.std.proofs.Common.{◌∙◌, ◌+◌, arith, refl}
use Rattle.table_index.specs.Laws.{slot_within, item_long}
use Rattle.table_fill.specs.Parts.{tables_in, SameLengths}
use Rattle.table_fill.specs.Twins.{more_twins}
use Rattle.table_fill.proofs.Laws.{going_start, going_newer, going_older, going_full, going_end}
use Rattle.table_fill.proofs.Parts.{lengths_trans, same_sizes}
use Rattle.table_fill.proofs.gather.Goals as goal
use Rattle.table_fill.proofs.gather.Goals.{in-Newer, in-Older}

pub loop-i-init : goal.loop-i-init
loop-i-init c = record {
  going = going_start c.args.image.now c.args.places.now c.args.n (tables_in c.args.iwords.now c.args.bwords.now c.args.rows.now) c.requires.ready;
  lengths = record { inodes = refl; blocks = refl; both = refl };
  indexed = c.requires.indexed;
  twins_indexed = record { room = omega arith; indexes = c.requires.no_twins.empty };
  twins_long = refl;
}

pub returns-in-Full : goal.returns-in-Full
returns-in-Full c =
    going_full c.args.image.now c.args.places.now c.args.n (tables_in c.args.iwords.now c.args.bwords.now c.args.rows.now) c.requires.ready
    (tables_in c.loop-i.iwords c.loop-i.bwords c.loop-i.rows) (tables_in c.tabulate.new.iwords c.tabulate.new.bwords c.tabulate.new.rows)
    c.loop-i.agreed c.loop-i.i c.tabulate.result c.loop-i.invariant.going (omega arith)
    (same_sizes (record { inodes = c.tabulate.auto.iwords; blocks = c.tabulate.auto.bwords; both = c.tabulate.auto.rows }))
    (rw c.from-p.ensures at c.tabulate.ensures.shown) c.in-Full.is

pub still_agree-agreed-requires-clause-all_lie : goal.still_agree-agreed-requires-clause-all_lie
still_agree-agreed-requires-clause-all_lie c = λ j h. c.requires.ready.lie j (omega arith)

pub still_agree-agreed-requires-clause-lies : goal.still_agree-agreed-requires-clause-lies
still_agree-agreed-requires-clause-lies c = rw c.from-p.ensures (c.requires.ready.lie c.loop-i.i (omega arith))

pub twin_slot-requires : goal.twin_slot-requires
twin_slot-requires c = rw c.from-p.ensures (c.requires.ready.lie c.loop-i.i (omega arith))

pub put-requires-clause-slot_lt_slots : goal.put-requires-clause-slot_lt_slots
put-requires-clause-slot_lt_slots c = rw c.twin_slot.ensures (slot_within _)

pub loop-i-preserved : goal.loop-i-preserved
loop-i-preserved c =
    let kept : SameLengths c.tabulate.new.iwords c.tabulate.new.bwords c.tabulate.new.rows c.loop-i.iwords c.loop-i.bwords c.loop-i.rows =
    record { inodes = c.tabulate.auto.iwords; blocks = c.tabulate.auto.bwords; both = c.tabulate.auto.rows } in
    let image = c.args.image.now in
    let t₀ = tables_in c.args.iwords.now c.args.bwords.now c.args.rows.now in
    let t = tables_in c.loop-i.iwords c.loop-i.bwords c.loop-i.rows in
    let t' = tables_in c.tabulate.new.iwords c.tabulate.new.bwords c.tabulate.new.rows in
    let shown = rw c.from-p.ensures at c.tabulate.ensures.shown in
    record {
      going = elim c.match-tabulate.branch [
        | in-Newer w ↦ rw w.agreed-is
            (going_newer image c.args.places.now c.args.n t₀ c.requires.ready t t' c.loop-i.agreed c.loop-i.i c.tabulate.result c.loop-i.invariant.going
            (omega arith) (same_sizes kept) shown w.in-Newer.is)
        | in-Older w ↦ rw w.agreed-is
            (going_older image c.args.places.now c.args.n t₀ c.requires.ready t t' c.loop-i.agreed c.loop-i.i c.tabulate.result c.loop-i.invariant.going
            (omega arith) (same_sizes kept) shown w.in-Older.is w.still_agree-agreed.result (rw c.from-p.ensures at w.still_agree-agreed.ensures))
      ];
      lengths = lengths_trans kept c.loop-i.invariant.lengths;
      indexed = c.tabulate.ensures.indexed;
      twins_indexed = rw (c.put.ensures, c.twin_slot.ensures, c.from-p.ensures)
          (more_twins c.args.image.now c.args.places.now c.loop-i.twins c.loop-i.i
          (omega (arith, c.requires.no_twins.room, c.loop-i.invariant.twins_long)) c.loop-i.invariant.twins_indexed);
      twins_long = rw c.put.ensures (item_long c.loop-i.twins c.twin_slot.result (c.loop-i.i + 1)) ∙ c.loop-i.invariant.twins_long;
    }

pub returns-then-agreed : goal.returns-then-agreed
returns-then-agreed c =
    going_end c.args.image.now c.args.places.now c.args.n (tables_in c.args.iwords.now c.args.bwords.now c.args.rows.now) c.requires.ready
    (tables_in c.loop-i.iwords c.loop-i.bwords c.loop-i.rows) c.loop-i.agreed c.loop-i.i _ c.loop-i.invariant.going (omega arith) (rw c.if-agreed.true)

pub returns-else-agreed : goal.returns-else-agreed
returns-else-agreed c =
    going_end c.args.image.now c.args.places.now c.args.n (tables_in c.args.iwords.now c.args.bwords.now c.args.rows.now) c.requires.ready
    (tables_in c.loop-i.iwords c.loop-i.bwords c.loop-i.rows) c.loop-i.agreed c.loop-i.i _ c.loop-i.invariant.going (omega arith) (rw c.if-agreed.false)
