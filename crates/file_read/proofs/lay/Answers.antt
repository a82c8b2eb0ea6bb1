use Rattle.std.proofs.Common.{sym, arith}
use Rattle.file_read.specs.Laws.{laid_is, laid_none}
use Rattle.file_read.proofs.lay.Goals as goal

pub returns-then-to-buffer : goal.returns-then-to-buffer
returns-then-to-buffer c =
    laid_is c.args.text.now c.args.begin c.args.from c.args.buffer.now c.saturating_sub-to.result c.saturating_sub-skip.result c.min.result c.put.new.image
    c.saturating_sub-to.ensures c.if-to-buffer.true c.saturating_sub-skip.ensures c.min.ensures c.put.ensures

pub returns-else-to-buffer : goal.returns-else-to-buffer
returns-else-to-buffer c = sym (laid_none c.args.text.now c.args.begin c.args.from c.args.buffer.now c.requires (omega arith))
