-- A directory and an entry.
use Prim.Native.Nat.{ℕ, ◌+◌, ◌-◌, ◌<◌}
use mathlib.Core.Path.{◌≡◌, refl, sym, ap, ◌∙◌}
use mathlib.Core.Logic.{◌≢◌}
use native.Mathlib.Omega.{arith}
use native.Mathlib.Nat.{pos_of_ne-zero}
use Rattle.format.specs.Ids.{is_directory_id}
use Rattle.volume_laws.specs.Lists.{get_or_mem}
use Rattle.tree_show.specs.Walk.{walking_begins, walking_past, walking_on, walking_ends, deeper_shown, entry_none, entry_file, entry_directory}
use Rattle.tree_show.proofs.+show_directory_show_entry.Goals as goal
use Rattle.tree_show.proofs.+show_directory_show_entry.Goals.{show_directory-then-link_at-directory, show_directory-else-link_at-directory}

-- the levels fall
down : (n t : ℕ) → n + n ≡ t → n ≢ 0 → (n - 1) + (n - 1) + 1 < t
down n t e h = let p = pos_of_ne-zero h in omega arith

pub show_directory-returns-then-levels-eq0-clause-told : goal.show_directory-returns-then-levels-eq0-clause-told
show_directory-returns-then-levels-eq0-clause-told t c =
    let a = c.args in
    deeper_shown a.rows.now.image.now a.rows.now.ids.now a.rows.now.spots.now a.order.now a.directory a.levels c.if-levels-eq0.true a.text.now a.cursor _ _ c.show_deeper-at.ensures.told

pub show_directory-loop-p-init : goal.show_directory-loop-p-init
show_directory-loop-p-init t c =
    let a = c.args in
    walking_begins a.rows.now.image.now a.rows.now.ids.now a.rows.now.spots.now a.order.now a.directory a.levels c.if-levels-eq0.false a.text.now a.cursor

pub show_directory-link_at-requires : goal.show_directory-link_at-requires
show_directory-link_at-requires t c = (c.requires.showable.inodes _ (get_or_mem c.args.order.now c.loop-p.p-index 0 c.loop-p-test.true)).0

pub show_directory-show_entry-c-requires : goal.show_directory-show_entry-c-requires
show_directory-show_entry-c-requires t c = (
  down c.args.levels t c.decreases c.if-levels-eq0.false,
  (
    c.requires.showable,
    (
      c.requires.showable.inodes _ (get_or_mem c.args.order.now c.loop-p.p-index 0 c.loop-p-test.true),
      (omega (arith, c.requires.levels_le_most_depth), omega (arith, c.requires.deeper_room_bound, c.loop-p.invariant.room)),
    ),
  ),
)

pub show_directory-loop-p-preserved : goal.show_directory-loop-p-preserved
show_directory-loop-p-preserved t c =
    elim c.if-link_at-directory.branch [
      | show_directory-then-link_at-directory w ↦
          rw (w.text-is, w.c-is)
          (walking_on c.loop-p.invariant c.loop-p-test.true (sym c.link_at.ensures ∙ w.if-link_at-directory.true) _ _ w.show_entry-c.auto.text w.show_entry-c.ensures.within
          w.show_entry-c.ensures.told)
      | show_directory-else-link_at-directory w ↦
          rw (w.text-is, w.c-is)
          (walking_past c.loop-p.invariant c.loop-p-test.true (λ e. w.if-link_at-directory.false (c.link_at.ensures ∙ e)))
    ]

pub show_directory-returns-clause-told : goal.show_directory-returns-clause-told
show_directory-returns-clause-told t c = walking_ends c.loop-p.invariant c.loop-p-test.false

pub show_entry-returns-then-cursor-eq0-clause-told : goal.show_entry-returns-then-cursor-eq0-clause-told
show_entry-returns-then-cursor-eq0-clause-told t c =
    let a = c.args in
    entry_none a.rows.now.image.now a.rows.now.ids.now a.rows.now.spots.now a.order.now a.p a.levels a.text.now a.cursor c.if-cursor-eq0.true

pub show_entry-returns-then-is_directory_id-clause-told : goal.show_entry-returns-then-is_directory_id-clause-told
show_entry-returns-then-is_directory_id-clause-told t c =
    let a = c.args in
    let e = c.id_at-entry.ensures in
    entry_directory a.rows.now.image.now a.p a.levels (pos_of_ne-zero c.if-cursor-eq0.false) refl (λ v l counts. c.show_line-at.ensures.told v l.blocks counts)
    (ap is_directory_id (sym e) ∙ sym c.is_directory_id.ensures ∙ c.if-is_directory_id.true) _ _ (rw e at c.show_directory.ensures.told)

pub show_entry-returns-clause-told : goal.show_entry-returns-clause-told
show_entry-returns-clause-told t c =
    let a = c.args in
    entry_file a.rows.now.image.now a.p a.levels (pos_of_ne-zero c.if-cursor-eq0.false) refl (λ v l counts. c.show_line-at.ensures.told v l.blocks counts)
    (ap is_directory_id (sym c.id_at-entry.ensures) ∙ sym c.is_directory_id.ensures ∙ c.if-is_directory_id.false)
