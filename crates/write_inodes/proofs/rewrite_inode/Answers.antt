use Rattle.calls.specs.Attempt.{number_of}
use Rattle.calls.specs.Outcome.{outcome_of}
use Rattle.write_inodes.specs.Rewriting.{rewrite_last, rewrite_stored}
use Rattle.write_inodes.proofs.rewrite_inode.Goals as goal

pub returns-then-sequence : goal.returns-then-sequence
returns-then-sequence c =
    λ ds h. rewrite_last c.args.image.now ds c.args.id c.args.parent c.args.name.now c.sequence_of-sequence.result (c.sequence_of-sequence.ensures ds h) c.if-sequence.true

pub returns : goal.returns
returns c =
    λ ds h. rewrite_stored c.args.image.now ds c.args.id c.args.parent c.args.name.now c.sequence_of-sequence.result (c.sequence_of-sequence.ensures ds h) c.if-sequence.false
    (number_of (outcome_of c.store_inode.result)) _ (c.store_inode.ensures ds h).0 (c.store_inode.ensures ds h).1
