use Rattle.std.proofs.Common.{List, ℕ, not, sym, ap, ap₂, ◌∙◌, rules, tests}
use Rattle.table_rows.specs.Parts.{lent, both}
use Rattle.table_rows.specs.Rows.{Usable}
use Rattle.mount_state.specs.State.{inode_ids_at, inode_spots_at}
use Rattle.collect_copies.specs.Copied.{tables_of, dropped}
use Rattle.collect_copies.specs.Steps.{copied_elsewhere, copied_older, copied_counts}
use Rattle.collect_copies.proofs.is_copied.Goals as goal
use Rattle.collect_copies.proofs.is_copied.Goals.{then-is_inside, else-is_inside}

pub invariant_of-rows : goal.invariant_of-rows
invariant_of-rows c =
    let n = c.args.inodes in
    let t = c.args.tables.now in
    record { usable = both (Usable c.args.image.now) (lent inode_ids_at n t) (lent inode_spots_at n t) c.requires.rowed.inodes }

pub returns-then-counts : goal.returns-then-counts
returns-then-counts c = elim c.if-is_inside.branch [
  | then-is_inside w ↦
      let n = c.args.inodes in
      let t = c.args.tables.now in
      ap not (c.is_dropped.ensures
      ∙ ap₂ (λ (a b : List ℕ). dropped c.args.image.now c.args.offset c.args.span c.args.places.now (record { ids = a; spots = b }) c.args.p) (lent inode_ids_at n t) (lent inode_spots_at n t))
      ∙ copied_counts c.args.image.now c.args.offset c.args.span c.args.places.now (tables_of n c.args.blocks t) c.args.p
      (sym c.is_inside.ensures ∙ w.if-is_inside.true) (sym w.counts.ensures ∙ sym w.value-is ∙ c.if-counts.true)
  | else-is_inside w ↦ let e = sym c.if-counts.true ∙ w.value-is in search (rules, tests)
]

pub returns-else-counts : goal.returns-else-counts
returns-else-counts c = elim c.if-is_inside.branch [
  | then-is_inside w ↦
      c.if-counts.false
      ∙ copied_older c.args.image.now c.args.offset c.args.span c.args.places.now (tables_of c.args.inodes c.args.blocks c.args.tables.now) c.args.p
      (sym c.is_inside.ensures ∙ w.if-is_inside.true) (sym w.counts.ensures ∙ sym w.value-is ∙ c.if-counts.false)
  | else-is_inside w ↦
      c.if-counts.false
      ∙ copied_elsewhere c.args.image.now c.args.offset c.args.span c.args.places.now (tables_of c.args.inodes c.args.blocks c.args.tables.now) c.args.p
      (sym c.is_inside.ensures ∙ w.if-is_inside.false)
]
