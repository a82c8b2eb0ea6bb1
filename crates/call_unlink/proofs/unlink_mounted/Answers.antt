-- `call_unlink::unlink_mounted`: a path that leads nowhere, and one that leads to an inode.
use Rattle.std.proofs.lemmas.Result.{err_from_is_err_and}
use Rattle.calls.specs.Attempt.{number_of}
use Rattle.calls.specs.Outcome.{code, outcome_of}
use Rattle.call_unlink.specs.Unlinking.{unlink_absent, unlink_found}
use Rattle.call_unlink.proofs.unlink_mounted.Goals as goal

pub returns-in_err-id : goal.returns-in_err-id
returns-in_err-id c =
    let p = err_from_is_err_and c.from_residual.result c.from_residual.ensures.1 in
    rw (p.1, p.2) (λ ds h. unlink_absent h c.args.base.now c.args.path.now (code c.in_err-id.field-0.0) (c.in_err-id.ensures ds h))

pub returns : goal.returns
returns c =
    λ ds h. unlink_found h c.args.base.now c.args.path.now c.in_ok-id.id (c.in_ok-id.ensures ds h)
    (number_of (outcome_of c.rewrite_inode.result)) _ (c.rewrite_inode.ensures ds h).0 (c.rewrite_inode.ensures ds h).1
