-- A new name below an inode. Document 01, refusals 11 and 12.
use Rattle.std.specs.Prelude.{ℕ, ◌≡◌, ◌≢◌, Bool, cond, not, List, [], ◌∷◌, ◌++◌, length, ltb}
use Rattle.std.proofs.Math.Path.{refl}
use Rattle.std.proofs.Common.{sym, ap, ◌∙◌, arith, lt-ltb}
use Rattle.std.proofs.Math.Bool.{true, false}
use Rattle.format.specs.Bytes.{Bytes}
use Rattle.format.specs.Ids.{is_directory_id}
use Rattle.volume.specs.Lists.{Only, nobody, several, one, only}
use Rattle.volume.specs.View.{by_bytes}
use Rattle.volume.specs.Counting.{Volume}
use Rattle.volume.specs.Tree.{children}
use Rattle.record_places.specs.Place.{by_place}
use Rattle.calls.specs.Refusal.{Check, first_refusal}
use Rattle.calls.specs.Mount.{volume}
use Rattle.calls.specs.Create.{name_checks}
use Rattle.calls.specs.declared.Descriptor.{Descriptor}
use Rattle.area_pass.specs.Bridge.{placed_volume}
use Rattle.mount_state.specs.Bridge.{children_are}

-- one or several
abbrev pub any_of : Only ℕ → Bool
any_of nobody = false
any_of several = true
any_of (one i) = true

any_only : (l : List ℕ) → any_of (only l) ≡ ltb 0 (length l)
unfolding only
any_only [] = refl
any_only (a ∷ []) = refl
any_only (a ∷ b ∷ l) = sym (lt-ltb 0 (length (a ∷ b ∷ l)) (omega arith))

-- 11 and 12, and then x
abbrev number_or : Bool → Bool → ℕ → ℕ
number_or a b x = cond a 11 (cond b 12 x)

-- further checks m behind those of a new name
module _ (v : Volume Bytes) (d : ℕ) (n : Bytes) (m : List Check) where
  pub name_refused : first_refusal (name_checks v d n) ≢ 0 → first_refusal (name_checks v d n ++ m) ≡ first_refusal (name_checks v d n)
  unfolding first_refusal
  name_refused h = go (not (is_directory_id d)) (ltb 0 (length (children by_bytes v d n))) h
    where
      go : (a b : Bool) → number_or a b 0 ≢ 0 → number_or a b (first_refusal m) ≡ number_or a b 0
      go true b h = refl
      go false true h = refl
      go false false h = absurd (h refl)

  pub name_passed : first_refusal (name_checks v d n) ≡ 0 → first_refusal (name_checks v d n ++ m) ≡ first_refusal m
  unfolding first_refusal
  name_passed h = go (not (is_directory_id d)) (ltb 0 (length (children by_bytes v d n))) h
    where
      go : (a b : Bool) → number_or a b 0 ≡ 0 → number_or a b (first_refusal m) ≡ first_refusal m
      go true b h = absurd (omega arith)
      go false true h = absurd (omega arith)
      go false false h = refl

module _ (image : Bytes) (ds : List Descriptor) (d : ℕ) (n : Bytes) where
  pub name_below_file : is_directory_id d ≡ false → 11 ≡ first_refusal (name_checks (volume image ds) d n)
  unfolding first_refusal
  name_below_file e = rw e

  module _ (e : is_directory_id d ≡ true) (o : Only ℕ) (q : o ≡ only (children (by_place image) (placed_volume image ds) d n)) where
    is_any : (b : Bool) → any_of o ≡ b → ltb 0 (length (children by_bytes (volume image ds) d n)) ≡ b
    is_any b a = rw (← children_are image ds d n) (sym (any_only (children (by_place image) (placed_volume image ds) d n)) ∙ ap any_of (sym q) ∙ a)

    pub name_taken : any_of o ≡ true → 12 ≡ first_refusal (name_checks (volume image ds) d n)
    unfolding first_refusal
    name_taken a = rw (e, is_any true a)

    pub name_free : any_of o ≡ false → 0 ≡ first_refusal (name_checks (volume image ds) d n)
    unfolding first_refusal
    name_free a = rw (e, is_any false a)
