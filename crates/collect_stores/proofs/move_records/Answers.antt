use Rattle.std.proofs.Common.{ap, ◌∙◌}
use Rattle.calls.specs.Collect.{next_count}
use Rattle.collect_stores.specs.Moved.{stores_move}
use Rattle.collect_stores.proofs.move_records.Goals as goal

pub returns : goal.returns
returns c =
    stores_move c.args.image.now c.args.scratch _ c.args.places.now c.requires _ _ _ _
    c.fill_scratch.ensures
    c.write_area.ensures
    (c.area_id-id.ensures.is c.args.span c.requires.header)
    (c.next_count-count.ensures ∙ ap next_count (c.area_count.ensures.is c.args.span c.requires.header))
