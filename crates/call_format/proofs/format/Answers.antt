use Rattle.call_format.specs.Numbers.{format_bad, format_few, format_lent, format_done}
use Rattle.call_format.proofs.format.Goals as goal

pub returns-then-n-eq0-clause-number : goal.returns-then-n-eq0-clause-number
returns-then-n-eq0-clause-number c = (format_bad _ _ _ c.count_good_areas-n.ensures c.if-n-eq0.true).0

pub returns-then-n-eq0-clause-image : goal.returns-then-n-eq0-clause-image
returns-then-n-eq0-clause-image c = (format_bad _ _ _ c.count_good_areas-n.ensures c.if-n-eq0.true).1

pub returns-then-n-eq1-clause-number : goal.returns-then-n-eq1-clause-number
returns-then-n-eq1-clause-number c = (format_few _ _ _ c.count_good_areas-n.ensures c.if-n-eq0.false c.if-n-eq1.true).0

pub returns-then-n-eq1-clause-image : goal.returns-then-n-eq1-clause-image
returns-then-n-eq1-clause-image c = (format_few _ _ _ c.count_good_areas-n.ensures c.if-n-eq0.false c.if-n-eq1.true).1

pub format_areas-requires-clause-lent : goal.format_areas-requires-clause-lent
format_areas-requires-clause-lent c = (format_lent _ _ _ c.count_good_areas-n.ensures c.if-n-eq0.false c.if-n-eq1.false).0

pub format_areas-requires-clause-in_bounds : goal.format_areas-requires-clause-in_bounds
format_areas-requires-clause-in_bounds c = (format_lent _ _ _ c.count_good_areas-n.ensures c.if-n-eq0.false c.if-n-eq1.false).1

pub returns-clause-number : goal.returns-clause-number
returns-clause-number c = (format_done _ _ _ c.count_good_areas-n.ensures c.if-n-eq0.false c.if-n-eq1.false _ c.format_areas.ensures).0

pub returns-clause-image : goal.returns-clause-image
returns-clause-image c = (format_done _ _ _ c.count_good_areas-n.ensures c.if-n-eq0.false c.if-n-eq1.false _ c.format_areas.ensures).1
