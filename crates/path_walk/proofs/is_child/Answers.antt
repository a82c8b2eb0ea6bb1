use Rattle.std.proofs.Common.{sym, ◌∙◌}
use Rattle.path_walk.specs.Laws.{child_live, child_other}
use Rattle.path_walk.proofs.is_child.Goals as goal

pub returns-then-is_entry : goal.returns-then-is_entry
returns-then-is_entry c =
    λ v rows. c.is_live.ensures v rows
    ∙ sym (child_live c.requires.inode_table v rows c.args.directory c.args.name.now c.args.row c.requires.row_in_bounds (sym c.is_entry.ensures ∙ c.if-is_entry.true))

pub returns-else-is_entry : goal.returns-else-is_entry
returns-else-is_entry c =
    λ v rows. c.if-is_entry.false
    ∙ sym (child_other c.requires.inode_table v rows c.args.directory c.args.name.now c.args.row c.requires.row_in_bounds (sym c.is_entry.ensures ∙ c.if-is_entry.false))
