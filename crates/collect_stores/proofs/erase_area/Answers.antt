use Rattle.std.proofs.Math.Nat.{add-sub_cancel_left}
use Rattle.collect_stores.specs.Reset.{reset_done}
use Rattle.collect_stores.proofs.erase_area.Goals as goal

pub returns : goal.returns
returns c =
    reset_done c.args.image.now c.args.offset c.args.span c.requires.0 c.requires.1 _ _ _
    (rw add-sub_cancel_left at c.copy_from_slice.ensures.after)
    c.erase.ensures
    c.put.ensures
