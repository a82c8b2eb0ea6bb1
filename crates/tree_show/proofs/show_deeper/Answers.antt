use Rattle.std.proofs.Common.{◌+◌}
use Rattle.volume.specs.Listing.{most_depth, deeper_word}
use Rattle.tree_show.specs.Show.{wrote_line}
use Rattle.tree_show.specs.Going.{deeper_text, nothing_wrote}
use Rattle.tree_show.proofs.show_deeper.Goals as goal

pub returns-then-has_entry-clause-told : goal.returns-then-has_entry-clause-told
returns-then-has_entry-clause-told c = λ v.
    let some = rw c.if-has_entry.true at c.has_entry.ensures in
    rw (some, deeper_text c.args.image.now v) (wrote_line (most_depth + 1) deeper_word c.indent-start.ensures c.print-end.ensures c.push.ensures)

pub returns-else-has_entry-clause-told : goal.returns-else-has_entry-clause-told
returns-else-has_entry-clause-told c = λ v.
    let none = rw c.if-has_entry.false at c.has_entry.ensures in
    rw none (nothing_wrote c.args.image.now v _ _)
