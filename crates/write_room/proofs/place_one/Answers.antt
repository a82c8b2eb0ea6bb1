use Rattle.write_room.specs.Rows.{safe_rows, place_found}
use Rattle.write_room.proofs.place_one.Goals as goal

pub find_spaces-count-requires-clause-area_rows : goal.find_spaces-count-requires-clause-area_rows
find_spaces-count-requires-clause-area_rows c = safe_rows c.requires.safe

pub returns-clause-is : goal.returns-clause-is
returns-clause-is c =
    (place_found c.requires.safe c.args.n _ _ c.take_place.result _ c.find_spaces-count.ensures.are c.take_place.ensures).0

pub returns-clause-inside : goal.returns-clause-inside
returns-clause-inside c =
    (place_found c.requires.safe c.args.n _ _ c.take_place.result _ c.find_spaces-count.ensures.are c.take_place.ensures).1
