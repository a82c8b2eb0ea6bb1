use Rattle.std.proofs.Common.{◌∙◌}
use Rattle.path_find.specs.Tree.{sequence_none, sequence_some}
use Rattle.path_find.proofs.sequence_of.Goals as goal

pub returns-in_default : goal.returns-in_default
returns-in_default c =
    let e = c.inode_rows.ensures in
    let f = rw (e.ids, e.spots) at c.find.ensures in
    λ ds h. sequence_none c.args.image.now _ _ c.args.id c.find.result f ds h.inodes c.in_default.is

pub returns : goal.returns
returns c =
    let e = c.inode_rows.ensures in
    let f = rw (e.ids, e.spots) at c.find.ensures in
    λ ds h. c.sequence_at.ensures ∙ sequence_some c.args.image.now _ _ c.args.id c.find.result f ds h.inodes c.in-Some.p c.in-Some.is
