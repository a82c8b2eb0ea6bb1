use Rattle.file_blocks.specs.Blocks.{is_end}
use Rattle.file_blocks.proofs.is_end.Goals as goal

pub returns-then-is_mine : goal.returns-then-is_mine
unfolding is_end
returns-then-is_mine c = rw (← c.is_mine.ensures, c.if-is_mine.true, ← c.id_at.ensures) c.is_free.ensures

pub returns-else-is_mine : goal.returns-else-is_mine
unfolding is_end
returns-else-is_mine c = rw (← c.is_mine.ensures, c.if-is_mine.false)
