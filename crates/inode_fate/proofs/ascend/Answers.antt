use Rattle.std.proofs.Common.{◌∙◌, sym, arith}
use Rattle.record_places.specs.Place.{by_place}
use Rattle.inode_fate.specs.Laws.{step_missing, step_root, step_deleted, step_above}
use Rattle.inode_fate.proofs.ascend.Goals as goal

pub returns-in_default : goal.returns-in_default
returns-in_default c = step_missing (by_place c.args.rows.now.image.now) _ (sym c.in_default.ensures)

pub returns-then-id_at-eq-ROOT : goal.returns-then-id_at-eq-ROOT
returns-then-id_at-eq-ROOT c = step_root (by_place c.args.rows.now.image.now) _ c.in-Some.p (sym c.in-Some.ensures) (sym c.id_at.ensures ∙ c.if-id_at-eq-ROOT.true)

pub returns-then-parent : goal.returns-then-parent
returns-then-parent c = step_deleted (by_place c.args.rows.now.image.now) _ c.in-Some.p (sym c.in-Some.ensures) (λ e. omega arith) (sym c.link_at-parent.ensures ∙ c.if-parent.true)

pub returns : goal.returns
returns c =
    rw c.link_at-parent.ensures
    (step_above (by_place c.args.rows.now.image.now) _ c.in-Some.p (sym c.in-Some.ensures) (λ e. omega arith) (λ e. c.if-parent.false (c.link_at-parent.ensures ∙ e)))
