use Rattle.std.proofs.Common.{refl, sym, ◌∙◌}
use Rattle.std.proofs.lemmas.Result.{err_from_is_err_and}
use Rattle.volume.specs.Tree.{found, absent}
use Rattle.calls.specs.Outcome.{code}
use Rattle.record_places.specs.Place.{by_place}
use Rattle.path_names.specs.Walking.{fewer}
use Rattle.path_find.specs.Parent.{toward_begins, toward_on, along_begins, along_ends, along_fails, along_on}
use Rattle.path_find.proofs.walk_before.Goals as goal

pub loop-w-init : goal.loop-w-init
loop-w-init c = (
  toward_begins c.args.base.now c.args.path.now c.start-w.result c.requires.path_value_2 c.start-w.ensures,
  λ v rows. along_begins (by_place c.args.rows.now.image.now) v c.args.base.now c.args.path.now c.start-w.result c.start-w.ensures,
)

pub returns-then-is_last : goal.returns-then-is_last
returns-then-is_last c =
    λ v rows. along_ends (by_place c.args.rows.now.image.now) v c.args.base.now c.args.path.now c.loop-w.w c.loop-w.at (c.loop-w.invariant.1 v rows)
    (sym c.is_last.ensures ∙ c.if-is_last.true)

pub returns-in_err-at : goal.returns-in_err-at
returns-in_err-at c =
    let p = err_from_is_err_and c.from_residual.result c.from_residual.ensures.1 in
    rw (p.1, p.2) (λ v rows.
    along_fails (by_place c.args.rows.now.image.now) v c.args.base.now c.args.path.now c.loop-w.w c.loop-w.at (c.loop-w.invariant.1 v rows)
    c.loop-w.invariant.0.any (sym c.is_last.ensures ∙ c.if-is_last.false) _ c.name_at.ensures (absent (code c.in_err-at.field-0.0)) (c.in_err-at.ensures v rows)
    (code c.in_err-at.field-0.0) refl)

pub loop-w-smaller : goal.loop-w-smaller
loop-w-smaller c =
    fewer c.args.base.now c.args.path.now c.loop-w.w c.after-w.result c.loop-w.invariant.0.any c.after-w.ensures

pub loop-w-preserved : goal.loop-w-preserved
loop-w-preserved c = (
  toward_on c.args.base.now c.args.path.now c.loop-w.w c.loop-w.invariant.0 (sym c.is_last.ensures ∙ c.if-is_last.false) c.after-w.result c.after-w.ensures,
  λ v rows.
      along_on (by_place c.args.rows.now.image.now) v c.args.base.now c.args.path.now c.loop-w.w c.loop-w.at (c.loop-w.invariant.1 v rows)
      c.loop-w.invariant.0.any (sym c.is_last.ensures ∙ c.if-is_last.false) _ c.name_at.ensures (found c.in_ok-at.at) (c.in_ok-at.ensures v rows)
      c.in_ok-at.at refl c.after-w.result c.after-w.ensures,
)
