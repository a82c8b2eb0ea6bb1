use Rattle.std.proofs.lemmas.Result.{err_from_is_err_and}
use Rattle.calls.specs.Attempt.{number_of}
use Rattle.calls.specs.Outcome.{code, outcome_of}
use Rattle.path_find.specs.Below.{below_named, not_below_lem}
use Rattle.call_rename.specs.Renaming.{rename_bad, rename_absent, rename_nowhere, rename_moved}
use Rattle.call_rename.proofs.rename_mounted.Goals as goal

pub returns-then-not-is_below_root : goal.returns-then-not-is_below_root
returns-then-not-is_below_root c =
    λ ds h. rename_bad h c.args.base.now c.args.old.now c.args.new.now
    (not_below_lem c.args.base.now c.args.new.now c.is_below_root.result c.is_below_root.ensures c.if-not-is_below_root.true)

pub returns-in_err-id : goal.returns-in_err-id
returns-in_err-id c =
    let p = err_from_is_err_and c.from_residual.result c.from_residual.ensures.1 in
    let b = below_named c.args.base.now c.args.new.now c.is_below_root.result c.is_below_root.ensures c.if-not-is_below_root.false in
    rw (p.1, p.2) (λ ds h. rename_absent h c.args.base.now c.args.old.now c.args.new.now b.0 (code c.in_err-id.field-0.0) (c.in_err-id.ensures ds h))

pub returns-in_err-directory : goal.returns-in_err-directory
returns-in_err-directory c =
    let p = err_from_is_err_and c.from_residual-in_err-directory.result c.from_residual-in_err-directory.ensures.1 in
    let b = below_named c.args.base.now c.args.new.now c.is_below_root.result c.is_below_root.ensures c.if-not-is_below_root.false in
    rw (p.1, p.2) (λ ds h. rename_nowhere h c.args.base.now c.args.old.now c.args.new.now b.0 c.in_ok-id.id (c.in_ok-id.ensures ds h)
    (code c.in_err-directory.field-0.0) (c.in_err-directory.ensures.means ds h))

pub returns : goal.returns
returns c =
    let b = below_named c.args.base.now c.args.new.now c.is_below_root.result c.is_below_root.ensures c.if-not-is_below_root.false in
    λ ds h. rename_moved h c.args.base.now c.args.old.now c.args.new.now b.0 c.in_ok-id.id (c.in_ok-id.ensures ds h)
    c.in_ok-directory.directory (c.in_ok-directory.ensures.means ds h) _ c.last_name.ensures.is (number_of (outcome_of c.move_inode.result)) _ (c.move_inode.ensures ds h)

pub last_name-requires-clause-path_value : goal.last_name-requires-clause-path_value
last_name-requires-clause-path_value c = c.in_ok-directory.ensures.good.0

pub last_name-requires-clause-path_value_2 : goal.last_name-requires-clause-path_value_2
last_name-requires-clause-path_value_2 c = c.in_ok-directory.ensures.good.1
