-- The two bytes, as a part of the slice.
use Rattle.std.proofs.Common.{◌≡◌, ◌+◌, ◌-◌, ◌∙◌, [], ap, length, arith}
use Rattle.format.specs.Bytes.{enc16}
use Rattle.byte_fields.proofs.Parts.{part_stored}
use Rattle.byte_fields.proofs.store16.Goals as goal

pub returns : goal.returns
returns c =
    let at = c.args.at in
    let new : c.copy_from_slice.new.self ≡ enc16 c.args.v [] = c.copy_from_slice.ensures.after ∙ rw c.to_le_bytes.ensures in
    let size : at + 2 - at ≡ 2 = omega arith in
    rw size (part_stored at 2 c.args.d.now _ (ap length new) c.requires ∙ rw new)
