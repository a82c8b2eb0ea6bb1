use Rattle.std.proofs.Common.{refl, ap, ◌∙◌}
use Rattle.std.proofs.lemmas.Result.{err_from_is_err_and}
use Rattle.calls.specs.Areas.{file_areas}
use Rattle.calls.specs.Mount.{volume}
use Rattle.calls.specs.Storing.{spaces, unused_id}
use Rattle.calls.specs.Outcome.{code, code_nonzero}
use Rattle.mount_state.specs.Bridge.{places_lent, names_lent}
use Rattle.call_create.specs.Creating.{made, not_made}
use Rattle.call_create.proofs.create_in.Goals as goal

pub unused_id-id-requires-clause-all_lie : goal.unused_id-id-requires-clause-all_lie
unused_id-id-requires-clause-all_lie c = (places_lent c.requires.safe_places).0

pub unused_id-id-requires-clause-places_len_bound : goal.unused_id-id-requires-clause-places_len_bound
unused_id-id-requires-clause-places_len_bound c = (places_lent c.requires.safe_places).1

pub returns-in_err-store_inode : goal.returns-in_err-store_inode
returns-in_err-store_inode c =
    let p = err_from_is_err_and c.from_residual.result c.from_residual.ensures.1 in
    let r = c.in_err-store_inode.field-0.0 in
    rw (p.1, p.2) (λ ds h l. not_made c.args.image.now (volume c.args.image.now ds) c.args.kind c.args.directory c.args.name.now
    (spaces c.args.image.now (file_areas c.args.image.now ds)) c.first_id.result c.unused_id-id.result
    c.first_id.ensures.is (c.unused_id-id.ensures ∙ ap (unused_id c.first_id.result) (names_lent c.args.image.now ds c.args.m c.args.places.now l)) (code r)
    (c.in_err-store_inode.ensures ds h).0 _ (c.in_err-store_inode.ensures ds h).1 (code_nonzero r) _ refl)

pub returns : goal.returns
returns c =
    λ ds h l. made c.args.image.now (volume c.args.image.now ds) c.args.kind c.args.directory c.args.name.now
    (spaces c.args.image.now (file_areas c.args.image.now ds)) c.first_id.result c.unused_id-id.result
    c.first_id.ensures.is (c.unused_id-id.ensures ∙ ap (unused_id c.first_id.result) (names_lent c.args.image.now ds c.args.m c.args.places.now l)) 0
    (c.in_ok-store_inode.ensures ds h).0 _ (c.in_ok-store_inode.ensures ds h).1 refl
