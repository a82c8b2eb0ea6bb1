use Rattle.std.proofs.Common.{sym, ◌∙◌, arith}
use Rattle.std.proofs.lemmas.Result.{err_from_is_err_and}
use Rattle.calls.specs.Outcome.{code}
use Rattle.call_append.specs.Outcome.{to_directory, append_long, append_absent, append_found}
use Rattle.call_append.proofs.append_mounted.Goals as goal

pub returns-then-text-gt-MOST_APPENDED : goal.returns-then-text-gt-MOST_APPENDED
returns-then-text-gt-MOST_APPENDED c = λ ds h p. append_long h _ _ _ (omega (arith, c.if-text-gt-MOST_APPENDED.true))

pub returns-in_err-file : goal.returns-in_err-file
returns-in_err-file c =
    let p = err_from_is_err_and c.from_residual.result c.from_residual.ensures.1 in
    rw (p.1, p.2) (λ ds h p.
    append_absent h c.args.base.now c.args.path.now c.args.text.now (omega (arith, c.if-text-gt-MOST_APPENDED.false)) (code c.in_err-file.field-0.0) (c.in_err-file.ensures ds h))

pub returns-then-is_directory_id : goal.returns-then-is_directory_id
returns-then-is_directory_id c =
    λ ds h p.
    append_found h c.args.base.now c.args.path.now c.args.text.now (omega (arith, c.if-text-gt-MOST_APPENDED.false)) c.in_ok-file.file (c.in_ok-file.ensures ds h)
    (to_directory c.args.image.now ds c.args.text.now c.in_ok-file.file (sym c.is_directory_id.ensures ∙ c.if-is_directory_id.true))

pub returns : goal.returns
returns c =
    λ ds h p.
    append_found h _ _ _ (omega (arith, c.if-text-gt-MOST_APPENDED.false)) _ (c.in_ok-file.ensures ds h)
    (c.append_to.ensures ds h p (sym c.is_directory_id.ensures ∙ c.if-is_directory_id.false))
