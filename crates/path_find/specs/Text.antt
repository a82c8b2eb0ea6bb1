-- A text for what a path leads to: append and overwrite. Document 01, refusal 8, and 9 to 11 of the path.
use Rattle.std.specs.Prelude.{ℕ, ◌≤◌, ◌<◌, ◌≡◌, Bool, not, ◌||◌, List, length}
use Rattle.std.proofs.Math.Path.{refl}
use Rattle.std.proofs.Common.{ap}
use Rattle.std.proofs.Math.Bool.{true, false, cond}
use borrow.Author.Tests.{lt-ltb, le-ltb, eq-eqb}
use Rattle.format.specs.Bytes.{Bytes}
use Rattle.volume.specs.View.{by_bytes}
use Rattle.volume.specs.Path.{good_path, path_names}
use Rattle.volume.specs.Tree.{Found, absent, lookup_names}
use Rattle.calls.specs.Mount.{volume, mount_number}
use Rattle.calls.specs.Lookup.{resolve}
use Rattle.calls.specs.Attempt.{refuses, at_found, attempt_at}
use Rattle.calls.specs.Append.{most_appended, attempt_text}
use Rattle.calls.specs.declared.Descriptor.{Descriptor}
use Rattle.mount_state.specs.State.{Holds}
use Rattle.mount_state.specs.declared.Mounted.{Mounted}

module _ {image : Bytes} {ds : List Descriptor} {m : Mounted} {t : List ℕ} (h : Holds image ds m t) (base path text : Bytes) (checks : ℕ → ℕ) where
  -- too much
  pub text_long : most_appended < length text → attempt_text image ds base path text checks ≡ refuses 8
  unfolding attempt_at
  text_long more = rw (eq-eqb (mount_number image ds) 0 h.number, lt-ltb most_appended (length text) more, or_true (not (good_path base path)))
    where
      or_true : (b : Bool) → (b || true) ≡ true
      or_true true = refl
      or_true false = refl

  -- o is what the path leads to
  pub text_at : length text ≤ most_appended → (o : Found) → o ≡ resolve image ds base path → attempt_text image ds base path text checks ≡ at_found checks o
  unfolding attempt_at resolve
  text_at short o e =
      rw (e, eq-eqb (mount_number image ds) 0 h.number, le-ltb most_appended (length text) short) (ap (at_found checks) (go (good_path base path)))
    where
      go : (b : Bool) → cond (not b || false) (absent 8) (lookup_names by_bytes (volume image ds) (path_names base path))
          ≡ cond b (lookup_names by_bytes (volume image ds) (path_names base path)) (absent 8)
      go true = refl
      go false = refl
