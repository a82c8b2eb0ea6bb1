use Rattle.call_rename.specs.Renaming.{into_root, into_lineage}
use Rattle.call_rename.proofs.moves_into_itself.Goals as goal

pub returns-then-id-eq-ROOT : goal.returns-then-id-eq-ROOT
returns-then-id-eq-ROOT c = λ ds h. into_root c.args.image.now ds c.args.id c.args.directory c.if-id-eq-ROOT.true

pub returns : goal.returns
returns c =
    let e = c.inode_rows.ensures in
    let among = rw (e.image, e.ids, e.spots) at c.in_lineage.ensures in
    λ ds h. into_lineage c.args.image.now ds c.args.id c.args.directory c.if-id-eq-ROOT.false _ _ h.inodes c.in_lineage.result among
