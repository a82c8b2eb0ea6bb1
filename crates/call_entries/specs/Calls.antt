-- Lookup and open by what a path leads to, and where the mount refuses.
use Rattle.std.specs.Prelude.{◌≡◌, List, eqb, false}
use Rattle.std.proofs.Math.Path.{ap}
use Rattle.std.proofs.Common.{◌∙◌, ne_eqb}
use Rattle.format.specs.Bytes.{Bytes}
use Rattle.volume.specs.Tree.{Found, absent}
use Rattle.calls.specs.Mount.{mount_number}
use Rattle.calls.specs.Lookup.{resolve, lookup_answer, lookup_of, file_only, open_answer, open_of}
use Rattle.calls.specs.Attempt.{attempt_at}
use Rattle.calls.specs.Append.{appending, append_of, image_appended}
use Rattle.calls.specs.Collect.{collecting, collect_of, image_collected}
use Rattle.calls.specs.Outcome.{code, code_nonzero}
use Rattle.calls.specs.declared.Descriptor.{Descriptor}
use Rattle.calls.specs.declared.Refusal.{Refusal}

module _ (image : Bytes) (ds : List Descriptor) (base path : Bytes) (f : Found) (e : f ≡ resolve image ds base path) where
  pub lookup_is : lookup_answer f ≡ lookup_of image ds base path
  unfolding lookup_of
  lookup_is = ap lookup_answer e

  pub open_is : open_answer (file_only f) ≡ open_of image ds base path
  unfolding open_of
  open_is = ap (λ g. open_answer (file_only g)) e

module _ (image : Bytes) (ds : List Descriptor) (r : Refusal) (e : code r ≡ mount_number image ds) where
  refused : eqb (mount_number image ds) 0 ≡ false
  refused = ne_eqb (mount_number image ds) 0 (λ z. code_nonzero r (e ∙ z))

  pub path_refused : (base path : Bytes) → absent (code r) ≡ resolve image ds base path
  unfolding resolve
  path_refused base path = rw (e, refused)

  pub append_refused : (base path text : Bytes) → (code r ≡ append_of image ds base path text) × (image ≡ image_appended image ds base path text)
  unfolding appending append_of image_appended attempt_at
  append_refused base path text = (rw (e, refused), rw refused)

  pub collect_refused : (code r ≡ collect_of image ds) × (image ≡ image_collected image ds)
  unfolding collecting collect_of image_collected
  collect_refused = (rw (e, refused), rw refused)
