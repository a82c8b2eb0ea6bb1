use Rattle.std.proofs.Common.{refl}
use Rattle.std.proofs.lemmas.Result.{err_from_is_err_and}
use Rattle.calls.specs.Outcome.{code, code_nonzero}
use Rattle.calls.specs.Answers.{created_seen}
use Rattle.call_create.specs.Creating.{create_absent, create_fails, create_full, create_stored}
use Rattle.call_create.proofs.create_mounted.Goals as goal

pub returns-in_err-directory : goal.returns-in_err-directory
returns-in_err-directory c =
    let p = err_from_is_err_and c.from_residual.result c.from_residual.ensures.1 in
    rw (p.1, p.2) (λ ds h l. create_absent c.requires.safe h c.args.base.now c.args.path.now c.args.kind (code c.in_err-directory.field-0.0) (c.in_err-directory.ensures.means ds h))

pub last_name-name-requires-clause-path_value : goal.last_name-name-requires-clause-path_value
last_name-name-requires-clause-path_value c = c.in_ok-directory.ensures.good.0

pub last_name-name-requires-clause-path_value_2 : goal.last_name-name-requires-clause-path_value_2
last_name-name-requires-clause-path_value_2 c = c.in_ok-directory.ensures.good.1

pub returns-in_err-check_name : goal.returns-in_err-check_name
returns-in_err-check_name c =
    let p = err_from_is_err_and c.from_residual-in_err-check_name.result c.from_residual-in_err-check_name.ensures.1 in
    let r = c.in_err-check_name.field-0.0 in
    rw (p.1, p.2) (λ ds h l. create_fails c.requires.safe h c.args.base.now c.args.path.now c.args.kind c.in_ok-directory.directory (c.in_ok-directory.ensures.means ds h)
    _ c.last_name-name.ensures.is (code r) (c.in_err-check_name.ensures ds h) (code_nonzero r))

pub returns-then-m-ge-MOST_INODES : goal.returns-then-m-ge-MOST_INODES
returns-then-m-ge-MOST_INODES c =
    λ ds h l. create_full c.requires.safe h c.args.base.now c.args.path.now c.args.kind c.in_ok-directory.directory (c.in_ok-directory.ensures.means ds h)
    _ c.last_name-name.ensures.is 0 (c.in_ok-check_name.ensures ds h) refl c.if-m-ge-MOST_INODES.true

pub returns : goal.returns
returns c =
    λ ds h l. create_stored c.requires.safe h c.args.base.now c.args.path.now c.args.kind c.in_ok-directory.directory (c.in_ok-directory.ensures.means ds h)
    _ c.last_name-name.ensures.is 0 (c.in_ok-check_name.ensures ds h) refl c.if-m-ge-MOST_INODES.false
    (created_seen c.create_in.result) _ (c.create_in.ensures ds h l).0 (c.create_in.ensures ds h l).1
