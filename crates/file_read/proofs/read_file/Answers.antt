use Rattle.std.proofs.Common.{◌∙◌, refl, arith}
use Rattle.file_read.specs.Give.{reads_broken, reads_past, reads_none, reads_some}
use Rattle.file_read.proofs.Blocks.{blocks}
use Rattle.file_read.proofs.read_file.Goals as goal

pub returns-in_default : goal.returns-in_default
returns-in_default c = λ v rows. reads_broken (c.in_default.ensures.told v rows) refl

pub returns-then-from-chain : goal.returns-then-from-chain
returns-then-from-chain c = λ v rows.
    let b = blocks _ _ _ _ c.in-Some.ensures.whole.whole in
    reads_past b.0 (c.in-Some.ensures.told v rows ∙ b.1) c.in-Some.chain.size b.2 (omega arith) refl

pub returns-then-given-eq0 : goal.returns-then-given-eq0
returns-then-given-eq0 c = λ v rows.
    let b = blocks _ _ _ _ c.in-Some.ensures.whole.whole in
    reads_none b.0 (c.in-Some.ensures.told v rows ∙ b.1) c.in-Some.chain.size b.2 (omega arith) c.min-given.result c.min-given.ensures c.if-given-eq0.true refl

pub returns : goal.returns
returns c = λ v rows.
    let b = blocks _ _ _ _ c.in-Some.ensures.whole.whole in
    reads_some b.0 (c.in-Some.ensures.told v rows ∙ b.1) c.in-Some.chain.size b.2 (omega arith) c.min-given.result c.min-given.ensures c.if-given-eq0.false
    c.follow-headers.result refl (c.follow-headers.ensures.headers b.0 b.1) (c.follow-headers.ensures.bytes b.0 b.1)
