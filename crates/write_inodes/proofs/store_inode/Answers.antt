use Rattle.std.proofs.Common.{sym}
use Rattle.format_laws.specs.Encoding.{inode_size}
use Rattle.write_inodes.specs.Stored.{stored_at, stored_nowhere}
use Rattle.write_inodes.proofs.store_inode.Goals as goal

pub returns-in_default : goal.returns-in_default
returns-in_default c =
    λ ds h. stored_nowhere c.args.image.now _ _ c.place_one.result _ (c.place_one.ensures.is ds h) (sym (inode_size _ _ _ _)) c.in_default.is

pub returns : goal.returns
returns c =
    λ ds h. stored_at c.args.image.now _ _ c.place_one.result _ (c.place_one.ensures.is ds h) (sym (inode_size _ _ _ _)) c.in-Some.at c.in-Some.is
    _ c.write_inode.ensures
