-- The four bytes, each by the divisions that the field is told by.
use Rattle.std.proofs.Common.{◌≡◌, ◌+◌, ◌-◌, ◌/◌, ◌∙◌, ap, length, arith}
use Rattle.byte_fields.proofs.Parts.{part_stored}
use Rattle.byte_fields.proofs.store32.Goals as goal

pub returns : goal.returns
returns c =
    let at = c.args.at in
    let v = c.args.v in
    let new = c.copy_from_slice.ensures.after ∙ c.to_le_bytes.ensures in
    let size : at + 4 - at ≡ 4 = omega arith in
    let third : v / 65536 ≡ v / 256 / 256 = omega arith in
    let fourth : v / 16777216 ≡ v / 256 / 256 / 256 = omega arith in
    rw size (part_stored at 4 c.args.d.now _ (ap length new) c.requires ∙ rw (new, third, fourth))
