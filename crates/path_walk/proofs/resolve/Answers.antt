use Rattle.std.proofs.Common.{refl, sym, ◌∙◌}
use Rattle.std.proofs.lemmas.Result.{err_from_is_err_and}
use Rattle.calls.specs.Outcome.{code}
use Rattle.volume.specs.Tree.{found, absent}
use Rattle.path_names.specs.Walking.{fewer}
use Rattle.record_places.specs.Place.{by_place}
use Rattle.path_walk.specs.Laws.{walk_starts, walk_ends, walk_fails, walk_goes_on}
use Rattle.path_walk.proofs.resolve.Goals as goal

pub loop-w-init : goal.loop-w-init
loop-w-init c = (c.start-w.ensures.reached, λ v rows. walk_starts (by_place c.args.rows.now.image.now) v _ _ c.start-w.ensures.names)

pub returns-in_err-at : goal.returns-in_err-at
returns-in_err-at c =
    let p = err_from_is_err_and c.from_residual.result c.from_residual.ensures.1 in
    rw (p.1, p.2) (λ v rows.
    walk_fails (by_place c.args.rows.now.image.now) v c.loop-w.at _ (sym c.has_name.ensures ∙ c.loop-w-test.true) _ c.name_at.ensures.first (absent (code c.in_err-at.field-0.0)) (c.in_err-at.ensures v rows)
    (code c.in_err-at.field-0.0) refl ∙ c.loop-w.invariant.1 v rows)

pub loop-w-smaller : goal.loop-w-smaller
loop-w-smaller c =
    fewer c.args.base.now c.args.path.now c.loop-w.w c.after-w.result (sym c.has_name.ensures ∙ c.loop-w-test.true) c.after-w.ensures

pub loop-w-preserved : goal.loop-w-preserved
loop-w-preserved c = (
  c.after-w.ensures.reached,
  λ v rows.
      walk_goes_on (by_place c.args.rows.now.image.now) v c.loop-w.at _ (sym c.has_name.ensures ∙ c.loop-w-test.true) _ c.name_at.ensures.first (found c.in_ok-at.at) (c.in_ok-at.ensures v rows)
      c.in_ok-at.at refl _ c.after-w.ensures.rest
      ∙ c.loop-w.invariant.1 v rows,
)

pub returns : goal.returns
returns c =
    λ v rows. walk_ends (by_place c.args.rows.now.image.now) v c.loop-w.at _ (sym c.has_name.ensures ∙ c.loop-w-test.false) ∙ c.loop-w.invariant.1 v rows
