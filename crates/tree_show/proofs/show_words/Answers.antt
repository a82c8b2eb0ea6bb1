use Rattle.std.proofs.Common.{sym, ◌∙◌}
use Rattle.inode_order.proofs.Names.{name_lent}
use Rattle.text_write.specs.Clip.{wrote_then}
use Rattle.tree_show.specs.Show.{root_words, directory_words, file_words}
use Rattle.tree_show.proofs.show_words.Goals as goal

pub returns-then-id-eq-ROOT-clause-told : goal.returns-then-id-eq-ROOT-clause-told
returns-then-id-eq-ROOT-clause-told c = λ v rows counts.
    rw (root_words c.args.rows.now.image.now v c.args.p (sym c.id_at-id.ensures ∙ c.if-id-eq-ROOT.true)) c.push.ensures

pub returns-then-is_directory_id-clause-told : goal.returns-then-is_directory_id-clause-told
returns-then-is_directory_id-clause-told c = λ v rows counts.
    let named = rw (name_lent c.args.rows.now.image.now c.args.p c.requires.inode_at.0 c.name_size.result c.name_size.ensures.is) at c.print-next.ensures in
    let directory = rw c.id_at-id.ensures at (sym c.is_directory_id.ensures ∙ c.if-is_directory_id.true) in
    rw (directory_words c.args.rows.now.image.now v c.args.p counts (λ e. c.if-id-eq-ROOT.false (c.id_at-id.ensures ∙ e)) directory) named

pub returns-clause-told : goal.returns-clause-told
returns-clause-told c = λ v rows counts.
    let named = rw (name_lent c.args.rows.now.image.now c.args.p c.requires.inode_at.0 c.name_size.result c.name_size.ensures.is) at c.print-next.ensures in
    let file = rw c.id_at-id.ensures at (sym c.is_directory_id.ensures ∙ c.if-is_directory_id.false) in
    let size = rw c.id_at-id.ensures at (c.show_size.ensures.told v rows) in
    rw (file_words c.args.rows.now.image.now v c.args.p counts (λ e. c.if-id-eq-ROOT.false (c.id_at-id.ensures ∙ e)) file) (wrote_then named size)
