-- What becomes of an unlink in a mounted volume. Document 01, "Create, append, unlink" and refusals 8 to 11, 16 and 15.
use Rattle.std.specs.Prelude.{ℕ, ◌≡◌, ◌≢◌, Bool, true, false, List, [], eqb}
use Rattle.std.proofs.Math.Path.{refl, sym, ap}
use Rattle.std.proofs.Common.{◌∙◌, ne_eqb, eqb-true}
use Rattle.format.specs.Bytes.{Bytes}
use Rattle.format.specs.Ids.{NONE}
use Rattle.volume.specs.View.{by_bytes}
use Rattle.volume.specs.Tree.{found, absent}
use Rattle.calls.specs.Mount.{volume, mount_number}
use Rattle.calls.specs.Rewrite.{rewrite_number, image_rewritten}
use Rattle.calls.specs.Attempt.{Attempt, goes, refuses, number_of, leaves, unless, at_found, attempt_at}
use Rattle.calls.specs.Unlink.{unlink_one, unlinking, unlink_of, image_unlinked}
use Rattle.calls.specs.declared.Descriptor.{Descriptor}
use Rattle.calls.specs.Outcome.{code, code_nonzero}
use Rattle.calls.specs.declared.Refusal.{Refusal}
use Rattle.path_find.specs.Tree.{below_root}
use Rattle.write_inodes.specs.Rewriting.{image_if}
use Rattle.mount_state.specs.State.{Holds}
use Rattle.mount_state.specs.declared.Mounted.{Mounted}

-- ---- the ways that an unlink ends

module _ (image : Bytes) (ds : List Descriptor) (base path : Bytes) where
  -- the number and the image of an unlink
  abbrev pub Outcome : ℕ → Bytes → Type 0
  Outcome r x = (r ≡ unlink_of image ds base path) × (x ≡ image_unlinked image ds base path)

  outcome : (u : Attempt ℕ) → unlinking image ds base path ≡ u → Outcome (number_of u) (leaves image (λ i. image_rewritten image ds i NONE []) u)
  unfolding unlink_of image_unlinked
  outcome u e = (sym (ap number_of e), sym (ap (leaves image (λ i. image_rewritten image ds i NONE [])) e))

  pub not_mounted : mount_number image ds ≢ 0 → Outcome (mount_number image ds) image
  unfolding unlinking attempt_at
  not_mounted h = outcome (refuses (mount_number image ds)) (rw (ne_eqb (mount_number image ds) 0 h))

  module _ (mounted : mount_number image ds ≡ 0) where
    unlinking_is : unlinking image ds base path ≡ at_found (unlink_one image ds) (below_root by_bytes (volume image ds) base path)
    unfolding unlinking attempt_at
    unlinking_is = rw mounted

    pub what_absent : (n : ℕ) → below_root by_bytes (volume image ds) base path ≡ absent n → Outcome n image
    what_absent n e = outcome (refuses n) (unlinking_is ∙ ap (at_found (unlink_one image ds)) e)

    -- the number decides, as the rewriting does
    pub what_found : (i : ℕ) → below_root by_bytes (volume image ds) base path ≡ found i → (r : ℕ) (x : Bytes)
        → r ≡ rewrite_number image ds i NONE [] → x ≡ image_if r image ds i NONE [] → Outcome r x
    unfolding unlink_one
    what_found i e r x a b = go (eqb r 0) refl
      where
        one : unlinking image ds base path ≡ unless r (goes i)
        one = unlinking_is ∙ ap (at_found (unlink_one image ds)) e ∙ rw (← a)

        go : (t : Bool) → eqb r 0 ≡ t → Outcome r x
        go true q =
            let u = outcome (goes i) (one ∙ rw q) in
            (eqb-true r 0 q ∙ u.0, b ∙ rw q u.1)
        go false q =
            let u = outcome (refuses r) (one ∙ rw q) in
            (u.0, b ∙ rw q u.1)

-- ---- by the tables of a mount

pub unlink_refused : (image : Bytes) (ds : List Descriptor) (base path : Bytes) (r : Refusal) → code r ≡ mount_number image ds → Outcome image ds base path (code r) image
unlink_refused image ds base path r e = rw e (not_mounted image ds base path (λ z. code_nonzero r (e ∙ z)))

module _ {image : Bytes} {ds : List Descriptor} {m : Mounted} {t : List ℕ} (h : Holds image ds m t) (base path : Bytes) where
  pub unlink_absent : (n : ℕ) → absent n ≡ below_root by_bytes (volume image ds) base path → Outcome image ds base path n image
  unlink_absent n e = what_absent image ds base path h.number n (sym e)

  pub unlink_found : (i : ℕ) → found i ≡ below_root by_bytes (volume image ds) base path → (r : ℕ) (x : Bytes)
      → r ≡ rewrite_number image ds i NONE [] → x ≡ image_if r image ds i NONE [] → Outcome image ds base path r x
  unlink_found i e = what_found image ds base path h.number i (sym e)
