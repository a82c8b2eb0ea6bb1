use Rattle.std.proofs.Common.{refl}
use Rattle.std.proofs.lemmas.Result.{err_from_is_err_and}
use Rattle.calls.specs.Attempt.{number_of}
use Rattle.calls.specs.Outcome.{code, code_nonzero, outcome_of}
use Rattle.call_rename.specs.Renaming.{move_named, move_into, move_on}
use Rattle.call_rename.proofs.move_inode.Goals as goal

pub returns-in_err-check_name : goal.returns-in_err-check_name
returns-in_err-check_name c =
    let p = err_from_is_err_and c.from_residual.result c.from_residual.ensures.1 in
    let r = c.in_err-check_name.field-0.0 in
    rw (p.1, p.2) (λ ds h. move_named c.args.image.now ds c.args.id c.args.directory c.args.name.now (code r) (c.in_err-check_name.ensures ds h) (code_nonzero r))

pub returns-then-moves_into_itself : goal.returns-then-moves_into_itself
returns-then-moves_into_itself c =
    λ ds h. move_into c.args.image.now ds c.args.id c.args.directory c.args.name.now 0 (c.in_ok-check_name.ensures ds h) refl
    c.moves_into_itself.result (c.moves_into_itself.ensures ds h) c.if-moves_into_itself.true

pub returns : goal.returns
returns c =
    λ ds h. move_on c.args.image.now ds c.args.id c.args.directory c.args.name.now 0 (c.in_ok-check_name.ensures ds h) refl
    c.moves_into_itself.result (c.moves_into_itself.ensures ds h) c.if-moves_into_itself.false
    (number_of (outcome_of c.rewrite_inode.result)) _ (c.rewrite_inode.ensures ds h).0 (c.rewrite_inode.ensures ds h).1
