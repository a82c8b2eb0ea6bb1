use Rattle.std.proofs.Common.{◌∙◌}
use Rattle.std.proofs.lemmas.Result.{err_from_is_err_and}
use Rattle.mount.specs.Mounting.{areas_refused, pass_lent, ready, records_refused, mount_passes}
use Rattle.mount.proofs.mount.Goals as goal

pub returns-in_err-found : goal.returns-in_err-found
returns-in_err-found c =
    let p = err_from_is_err_and c.from_residual.result c.from_residual.ensures.1 in
    rw (p.1, p.2) (areas_refused _ _ _ _ c.in_err-found.ensures)

pub list_areas-listing-requires : goal.list_areas-listing-requires
list_areas-listing-requires c =
    pass_lent _ _ _ _ (c.check_areas.auto.rows ∙ c.requires.tables_long) c.in_ok-found.ensures _ c.requires.places_long

pub fill_tables-requires : goal.fill_tables-requires
fill_tables-requires c =
    ready _ _ _ _ (c.check_areas.auto.rows ∙ c.requires.tables_long) c.in_ok-found.ensures _ _ c.list_areas-listing.new.rows c.list_areas-listing.ensures.listed
    c.list_areas-listing.ensures.within (c.list_areas-listing.auto.places ∙ c.requires.places_long)
    c.list_areas-listing.auto.rows c.list_areas-listing.ensures.read _ c.list_areas-listing.ensures.damage

pub returns-in_err-filled : goal.returns-in_err-filled
returns-in_err-filled c =
    let p = err_from_is_err_and c.from_residual-in_err-filled.result c.from_residual-in_err-filled.ensures.1 in
    rw (p.1, p.2) (records_refused _ _ _ _ (c.check_areas.auto.rows ∙ c.requires.tables_long) c.in_ok-found.ensures _ _ c.list_areas-listing.new.rows c.list_areas-listing.ensures.listed
    c.list_areas-listing.ensures.within (c.list_areas-listing.auto.places ∙ c.requires.places_long)
    c.list_areas-listing.auto.rows c.list_areas-listing.ensures.read _ c.list_areas-listing.ensures.damage _ _ c.in_err-filled.ensures)

pub returns : goal.returns
returns c =
    mount_passes _ _ _ _ (c.check_areas.auto.rows ∙ c.requires.tables_long) c.in_ok-found.ensures _ _ c.list_areas-listing.new.rows c.list_areas-listing.ensures.listed
    c.list_areas-listing.ensures.within (c.list_areas-listing.auto.places ∙ c.requires.places_long)
    c.list_areas-listing.auto.rows c.list_areas-listing.ensures.read _ c.list_areas-listing.ensures.damage
    c.in_ok-filled.filled _ c.in_ok-filled.ensures c.fill_tables.auto.rows
