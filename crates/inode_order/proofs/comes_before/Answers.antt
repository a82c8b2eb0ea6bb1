use Rattle.std.proofs.Common.{◌∙◌}
use Rattle.inode_order.proofs.Names.{place_less}
use Rattle.inode_order.proofs.comes_before.Goals as goal

pub returns : goal.returns
returns c =
    let compared = rw (c.name_at.ensures, c.name_at-2.ensures, c.id_at.ensures, c.id_at-2.ensures) at c.cmp.ensures in
    rw compared at c.is_lt.ensures ∙ place_less c.args.image.now c.args.p c.args.q
