use Rattle.tree_show.specs.Walk.{root_directory, root_counts, root_lives, tree_wrote}
use Rattle.tree_show.proofs.show_tree.Goals as goal

pub returns-clause-told : goal.returns-clause-told
returns-clause-told c = λ v lists counts few.
    let image = c.args.rows.now.image.now in
    tree_wrote image v c.args.root counts (c.show_line-at.ensures.told v lists.blocks (root_counts image v c.args.root counts))
    (c.show_directory-end.ensures.told v lists root_directory (root_lives image v c.args.root counts) few)
