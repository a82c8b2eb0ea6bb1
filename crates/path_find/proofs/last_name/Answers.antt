use Rattle.std.proofs.Common.{sym, ◌∙◌}
use Rattle.path_names.specs.Walking.{fewer}
use Rattle.path_find.specs.Parent.{toward_begins, toward_on, toward_ends}
use Rattle.path_find.proofs.last_name.Goals as goal

pub loop-w-init : goal.loop-w-init
loop-w-init c = toward_begins c.args.base.now c.args.path.now c.start-w.result c.requires.path_value_2 c.start-w.ensures

pub returns-then-is_last-clause-is : goal.returns-then-is_last-clause-is
returns-then-is_last-clause-is c =
    (toward_ends c.args.base.now c.args.path.now c.loop-w.w c.loop-w.invariant (sym c.is_last.ensures ∙ c.if-is_last.true) _ c.name_at.ensures).0

pub returns-then-is_last-clause-short : goal.returns-then-is_last-clause-short
returns-then-is_last-clause-short c =
    (toward_ends c.args.base.now c.args.path.now c.loop-w.w c.loop-w.invariant (sym c.is_last.ensures ∙ c.if-is_last.true) _ c.name_at.ensures).1

pub loop-w-smaller : goal.loop-w-smaller
loop-w-smaller c =
    fewer c.args.base.now c.args.path.now c.loop-w.w c.after-w.result c.loop-w.invariant.any c.after-w.ensures

pub loop-w-preserved : goal.loop-w-preserved
loop-w-preserved c =
    toward_on c.args.base.now c.args.path.now c.loop-w.w c.loop-w.invariant (sym c.is_last.ensures ∙ c.if-is_last.false) c.after-w.result c.after-w.ensures
