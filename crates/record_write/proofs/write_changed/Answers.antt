-- The header and the check go before the body, apart from what is copied.
use Rattle.std.proofs.Common.{◌≡◌, ◌+◌, ◌-◌, ◌∙◌, arith}
use Rattle.record_write.specs.Changed.{block_changed}
use Rattle.record_write.proofs.write_changed.Goals as goal

pub returns : goal.returns
returns c =
    let g = c.args in
    let old : g.from + g.h.length - g.from ≡ g.h.length = omega arith in
    λ a. block_changed g.image.now g.at g.h g.from g.begin g.text.now c.block_front-front.result c.changed_check.result
    c.requires.length_in_bounds c.requires.text_bound c.block_front-front.ensures (rw old at c.changed_check.ensures) a _
    (λ b. c.copy_changed.ensures b ∙ rw (c.put-2.ensures, c.put.ensures, c.to_le_bytes-field.ensures))
