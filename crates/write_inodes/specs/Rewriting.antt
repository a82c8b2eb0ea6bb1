-- The ways that the rewriting of an inode ends.
use Rattle.std.specs.Prelude.{ℕ, ◌+◌, ◌≡◌, ◌≢◌, cond, List, [], ◌∷◌}
use Rattle.std.proofs.Math.Path.{refl}
use Rattle.std.proofs.Common.{sym, ◌∙◌, add-one}
use Rattle.std.proofs.Math.Bool.{false}
use Rattle.std.proofs.Math.Option.{Option, none, some}
use Rattle.std.proofs.Math.Dec.{eqb}
use borrow.Author.Tests.{eq-eqb, ne_eqb}
use Rattle.format.specs.Bytes.{Bytes}
use Rattle.format.specs.Encoding.{inode_bytes}
use Rattle.volume.specs.View.{by_bytes}
use Rattle.volume.specs.Counting.{inode_of}
use Rattle.calls.specs.Refusal.{first_refusal}
use Rattle.calls.specs.Areas.{file_areas}
use Rattle.calls.specs.Mount.{volume}
use Rattle.calls.specs.Storing.{Store, spaces, place_all, stored_or}
use Rattle.calls.specs.Rewrite.{last_sequence, sequence_of, rewritten, rewrite_plan, rewrite_number, image_rewritten}
use Rattle.calls.specs.declared.Descriptor.{Descriptor}
use Rattle.write_inodes.specs.Stored.{place_number}

-- the image by the number: as it was where the rewriting is refused
abbrev pub image_if : ℕ → Bytes → List Descriptor → ℕ → ℕ → Bytes → Bytes
image_if n image ds i parent name = cond (eqb n 0) (image_rewritten image ds i parent name) image

module _ (image : Bytes) (ds : List Descriptor) (i parent : ℕ) (name : Bytes) (s : ℕ) (k : s ≡ sequence_of (inode_of by_bytes (volume image ds) i)) where
  pub rewrite_last : s ≡ last_sequence → (16 ≡ rewrite_number image ds i parent name) × (image ≡ image_if 16 image ds i parent name)
  unfolding rewrite_number first_refusal
  rewrite_last z = (rw (eq-eqb (sequence_of (inode_of by_bytes (volume image ds) i)) last_sequence (sym k ∙ z)), refl)

  abbrev plan : Option (List Store)
  plan = place_all (spaces image (file_areas image ds)) (inode_bytes i (s + 1) parent name ∷ [])

  plan_is : plan ≡ rewrite_plan image ds i parent name
  unfolding rewrite_plan rewritten
  plan_is = rw (add-one, k)

  pub rewrite_stored : s ≢ last_sequence → (r : ℕ) (x : Bytes) → r ≡ place_number plan → x ≡ stored_or image plan
      → (r ≡ rewrite_number image ds i parent name) × (x ≡ image_if r image ds i parent name)
  unfolding rewrite_number image_rewritten first_refusal
  rewrite_stored z r x a b = go plan refl a b
    where
      low : eqb (sequence_of (inode_of by_bytes (volume image ds) i)) last_sequence ≡ false
      low = ne_eqb (sequence_of (inode_of by_bytes (volume image ds) i)) last_sequence (λ y. z (k ∙ y))

      go : (o : Option (List Store)) → plan ≡ o → r ≡ place_number o → x ≡ stored_or image o
          → (r ≡ rewrite_number image ds i parent name) × (x ≡ image_if r image ds i parent name)
      go none p a b = (a ∙ rw (low, sym plan_is ∙ p), b ∙ rw a)
      go (some l) p a b = (a ∙ rw (low, sym plan_is ∙ p), b ∙ rw (a, sym plan_is ∙ p))
