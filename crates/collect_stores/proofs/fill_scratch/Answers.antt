use Rattle.std.proofs.Common.{◌∙◌}
use Rattle.collect_stores.specs.Filled.{filled_movable, filled_is}
use Rattle.collect_stores.proofs.fill_scratch.Goals as goal

pub copy_records-requires : goal.copy_records-requires
copy_records-requires c =
    rw (c.put.ensures, c.ready_scratch.ensures) (filled_movable c.args.image.now c.args.offset c.args.span c.args.id c.args.places.now c.requires)

pub returns : goal.returns
returns c =
    rw (c.put.ensures, c.ready_scratch.ensures) at c.copy_records.ensures
    ∙ filled_is c.args.image.now c.args.offset c.args.span c.args.id c.args.places.now c.requires
