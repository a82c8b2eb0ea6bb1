use Rattle.write_room.specs.Rows.{safe_rows}
use Rattle.write_room.specs.Plan.{rows_planned}
use Rattle.write_pieces.proofs.plan_places.Goals as goal

pub find_spaces-n-requires-clause-area_rows : goal.find_spaces-n-requires-clause-area_rows
find_spaces-n-requires-clause-area_rows c = safe_rows c.requires.safe

pub returns-clause-are : goal.returns-clause-are
returns-clause-are c = (rows_planned c.requires.safe _ _ _ c.take_places.result _ c.find_spaces-n.ensures.are c.take_places.ensures).0

pub returns-clause-inside : goal.returns-clause-inside
returns-clause-inside c = (rows_planned c.requires.safe _ _ _ c.take_places.result _ c.find_spaces-n.ensures.are c.take_places.ensures).1
