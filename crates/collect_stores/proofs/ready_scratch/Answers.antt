use Rattle.std.proofs.Common.{sym, ◌∙◌}
use Rattle.std.proofs.Math.Nat.{add-sub_cancel_left}
use Rattle.collect_stores.specs.Reset.{ready_blank, ready_reset}
use Rattle.collect_stores.proofs.ready_scratch.Goals as goal

pub returns-then-not-is_blank : goal.returns-then-not-is_blank
returns-then-not-is_blank c =
    let tested = rw (add-sub_cancel_left c.args.offset c.args.span) at c.is_blank.ensures in
    ready_reset c.args.image.now c.args.offset c.args.span c.requires.0 c.requires.1 (sym tested ∙ c.if-not-is_blank.true) _ c.erase_area.ensures

pub returns-else-not-is_blank : goal.returns-else-not-is_blank
returns-else-not-is_blank c =
    let tested = rw (add-sub_cancel_left c.args.offset c.args.span) at c.is_blank.ensures in
    ready_blank c.args.image.now c.args.offset c.args.span c.requires.0 c.requires.1 (sym tested ∙ c.if-not-is_blank.false)
