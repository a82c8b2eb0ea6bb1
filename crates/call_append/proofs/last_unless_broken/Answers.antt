use Rattle.call_append.specs.Last.{size_none, size_some}
use Rattle.call_append.proofs.last_unless_broken.Goals as goal

pub returns-in_err-file_size : goal.returns-in_err-file_size
returns-in_err-file_size c = rw c.from_residual.ensures (λ v rows. size_none _ v _ (c.in_err-file_size.ensures.told v rows))

pub returns : goal.returns
returns c = λ v rows. size_some _ v _ _ (c.in_ok-file_size.ensures.told v rows) _ (c.last_block.ensures v rows)
