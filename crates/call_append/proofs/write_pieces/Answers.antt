use Rattle.std.proofs.Common.{◌∙◌}
use Rattle.write_room.specs.Plan.{planned_some, planned_none, planned_inside}
use Rattle.call_append.specs.Written.{not_written, writing_ready, written}
use Rattle.call_append.proofs.write_pieces.Goals as goal

pub plan_places-requires-clause-le_size : goal.plan_places-requires-clause-le_size
plan_places-requires-clause-le_size c = (c.requires.room.cut.some_room, c.requires.room.cut.small)

pub plan_places-requires-clause-places_len : goal.plan_places-requires-clause-places_len
plan_places-requires-clause-places_len c = c.requires.room.places_count ∙ c.requires.room.cut.count

pub returns-then-not-plan_places : goal.returns-then-not-plan_places
returns-then-not-plan_places c =
    λ ds h. not_written c.args.image.now _ _ c.args.chain _ (planned_none _ c.plan_places.result _ (c.plan_places.ensures.are ds h) c.if-not-plan_places.true)

pub plan_ids-requires-clause-records_len_bound : goal.plan_ids-requires-clause-records_len_bound
plan_ids-requires-clause-records_len_bound c = (c.requires.records_len_bound, rw c.requires.room.ids_count c.requires.room.cut.counted)

pub store_pieces-requires : goal.store_pieces-requires
store_pieces-requires c =
    writing_ready _ _ _ c.requires.room.cut
    (planned_inside _ _ c.plan_places.result _ c.plan_places.ensures.inside c.if-not-plan_places.false)
    (rw (c.requires.room.ids_count ∙ c.requires.room.cut.count) at c.plan_ids.ensures)

pub returns : goal.returns
returns c =
    λ ds h. written c.args.image.now _ _ c.args.chain _ _ (planned_some _ c.plan_places.result _ (c.plan_places.ensures.are ds h) c.if-not-plan_places.false) _
    (rw (c.requires.room.ids_count ∙ c.requires.room.cut.count) at c.plan_ids.ensures) _ c.store_pieces.ensures
