use Rattle.std.proofs.Common.{eqb-true}
use Rattle.std.proofs.lemmas.Bool.{eqb-false}
use Rattle.format_laws.specs.Tests.{via}
use Rattle.area_kinds.specs.Checks.{answer_shared, answer_no_file, answer_scratch, answer_short, answer_pass}
use Rattle.area_kinds.proofs.check_kinds.Goals as goal

pub returns-then-shared_id : goal.returns-then-shared_id
returns-then-shared_id c = answer_shared _ _ _ c.args.files.now.good.pairs _ (via c.shared_id.ensures c.if-shared_id.true)

pub returns-then-is_empty : goal.returns-then-is_empty
returns-then-is_empty c = answer_no_file _ _ _ c.args.files.now.good.pairs _ (via c.shared_id.ensures c.if-shared_id.false) (eqb-true _ _ (via c.is_empty.ensures c.if-is_empty.true))

pub returns-in_default : goal.returns-in_default
returns-in_default c = answer_scratch _ _ _ c.args.files.now.good.pairs _ (via c.shared_id.ensures c.if-shared_id.false) c.in_default.not-One

pub returns-then-not-none_longer : goal.returns-then-not-none_longer
returns-then-not-none_longer c =
    answer_short _ _ _ c.args.files.now.good.pairs _ (via c.shared_id.ensures c.if-shared_id.false)
    (eqb-false _ _ (via c.is_empty.ensures c.if-is_empty.false)) c.in-One.area c.in-One.is (via c.none_longer.ensures c.if-not-none_longer.true)

pub returns : goal.returns
returns c =
    answer_pass _ _ _ c.args.files.now.good.pairs _ (via c.shared_id.ensures c.if-shared_id.false)
    (eqb-false _ _ (via c.is_empty.ensures c.if-is_empty.false)) c.in-One.area c.in-One.is (via c.none_longer.ensures c.if-not-none_longer.false)
