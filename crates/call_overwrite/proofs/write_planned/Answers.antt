use Rattle.std.proofs.Common.{◌≡◌, sym, ◌∙◌, map}
use Rattle.calls.specs.Overwrite.{changes, text_after}
use Rattle.write_room.specs.Plan.{planned_some, planned_none, planned_inside}
use Rattle.record_places.specs.Place.{bytes_at}
use Rattle.call_overwrite.specs.Written.{any_greatest, none_follows, no_place_lem, all_stored, storable, fresh}
use Rattle.call_overwrite.proofs.write_planned.Goals as goal

pub returns-then-any_greatest : goal.returns-then-any_greatest
unfolding changes
returns-then-any_greatest c =
    let a = c.args in
    λ ds h p.
    let greatest : c.any_greatest.result ≡ any_greatest a.image.now ds a.blocks.now a.range.from a.text.now
    = rw (← c.requires.places_len.1) (c.any_greatest.ensures (text_after (map (bytes_at a.image.now) a.blocks.now) a.range.from a.text.now)) in
    none_follows _ ds _ _ _ (sym greatest ∙ c.if-any_greatest.true)

pub returns-then-not-plan_versions : goal.returns-then-not-plan_versions
unfolding changes
returns-then-not-plan_versions c =
    let a = c.args in
    λ ds h p.
    let greatest : c.any_greatest.result ≡ any_greatest a.image.now ds a.blocks.now a.range.from a.text.now
    = rw (← c.requires.places_len.1) (c.any_greatest.ensures (text_after (map (bytes_at a.image.now) a.blocks.now) a.range.from a.text.now)) in
    no_place_lem _ ds _ _ _ _ _ c.requires.listed c.requires.places_len.1 c.requires.places_len.2 (sym greatest ∙ c.if-any_greatest.false)
    (planned_none _ c.plan_versions.result _ (c.plan_versions.ensures.are ds h) c.if-not-plan_versions.true)

pub store_versions-requires : goal.store_versions-requires
store_versions-requires c =
    storable _ _ _ _ _ _ c.requires.listed c.requires.places_len.1 c.requires.places_len.2 _ c.requires.sizes
    (planned_inside _ _ c.plan_versions.result _ c.plan_versions.ensures.inside c.if-not-plan_versions.false)

pub returns : goal.returns
unfolding changes
returns c =
    let a = c.args in
    let q = c.requires.places_len in
    λ ds h p.
    let greatest : c.any_greatest.result ≡ any_greatest a.image.now ds a.blocks.now a.range.from a.text.now
    = rw (← q.1) (c.any_greatest.ensures (text_after (map (bytes_at a.image.now) a.blocks.now) a.range.from a.text.now)) in
    let e = planned_some _ c.plan_versions.result _ (c.plan_versions.ensures.are ds h) c.if-not-plan_versions.false in
    all_stored _ ds _ _ _ _ _ c.requires.listed q.1 q.2 (sym greatest ∙ c.if-any_greatest.false) _ e _
    (c.store_versions.ensures (fresh _ ds _ _ _ _ a.text.now c.requires.listed q.1 q.2 h p (λ after. sym (c.any_greatest.ensures after) ∙ c.if-any_greatest.false) _ e))
