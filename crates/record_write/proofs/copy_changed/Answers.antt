-- Three parts are stored one after the other: what stands before the text, the text, and what stands after it.
use Rattle.record_write.specs.Changed.{copied_changed}
use Rattle.record_write.proofs.copy_changed.Goals as goal

pub returns : goal.returns
returns c =
    let g = c.args in
    λ a. copied_changed g.image.now g.from g.to g.n g.begin g.text.now c.requires a _ _ _ c.copy.ensures c.put.ensures c.copy-2.ensures
