use Rattle.std.proofs.Common.{sym, ◌∙◌, arith}
use Rattle.std.proofs.lemmas.Result.{err_from_is_err_and}
use Rattle.calls.specs.Outcome.{code}
use Rattle.call_overwrite.specs.Outcome.{in_directory, overwrite_long, overwrite_absent, overwrite_found}
use Rattle.call_overwrite.proofs.overwrite_mounted.Goals as goal

pub returns-then-text-gt-MOST_APPENDED : goal.returns-then-text-gt-MOST_APPENDED
returns-then-text-gt-MOST_APPENDED c = λ ds h. overwrite_long h _ _ _ _ (omega (arith, c.if-text-gt-MOST_APPENDED.true))

pub returns-in_err-file : goal.returns-in_err-file
returns-in_err-file c =
    let p = err_from_is_err_and c.from_residual.result c.from_residual.ensures.1 in
    rw (p.1, p.2) (λ ds h.
    overwrite_absent h _ _ _ _ (omega (arith, c.if-text-gt-MOST_APPENDED.false)) (code c.in_err-file.field-0.0) (c.in_err-file.ensures ds h))

pub returns-then-is_directory_id : goal.returns-then-is_directory_id
returns-then-is_directory_id c =
    λ ds h.
    overwrite_found h _ _ _ _ (omega (arith, c.if-text-gt-MOST_APPENDED.false)) c.in_ok-file.file (c.in_ok-file.ensures ds h)
    (in_directory c.args.image.now ds c.args.offset c.args.text.now c.in_ok-file.file (sym c.is_directory_id.ensures ∙ c.if-is_directory_id.true))

pub returns : goal.returns
returns c =
    λ ds h.
    overwrite_found h _ _ _ _ (omega (arith, c.if-text-gt-MOST_APPENDED.false)) c.in_ok-file.file (c.in_ok-file.ensures ds h)
    (c.overwrite_in.ensures ds h (sym c.is_directory_id.ensures ∙ c.if-is_directory_id.false))
