-- One record stored where it first fits. Document 01, "Create, append, unlink" and refusal 15.
use Rattle.std.specs.Prelude.{ℕ, ◌+◌, ◌≤◌, cond, List, [], ◌∷◌, length}
use Rattle.std.proofs.Math.Path.{◌≡◌, refl}
use Rattle.std.proofs.Common.{sym, ap, ◌∙◌, arith}
use Rattle.std.specs.Prelude.{Option, None, Some}
use Rattle.std.proofs.Math.Option.{Option as Maybe, none, some}
use Rattle.format.specs.Bytes.{Bytes}
use Rattle.calls.specs.Image.{put}
use Rattle.calls.specs.Storing.{Space, Store, first_fit, place_all, store_all, no_place, stored_or}
use Rattle.calls.specs.Storing.{Fit}
use Rattle.table_rows.specs.Answer.{meant}
use Rattle.write_room.specs.Spaces.{place_in, EndsAt}

-- 15 where there is no place
abbrev pub place_number : Maybe (List Store) → ℕ
place_number o = cond (no_place o) 15 0

pub inside_at : (n m : ℕ) (r : Option ℕ) (p : ℕ) → EndsAt n m r → r ≡ Some p → p + n ≤ m
inside_at n m r p h e = rw e at h

-- what `place_one` told of one record b
module _ (image : Bytes) (ss : List Space) (b : Bytes) (r : Option ℕ) (n : ℕ) (e : meant r ≡ place_in (first_fit n ss)) (l : n ≡ length b) where
  fits_at : (o : Maybe Fit) → first_fit (length b) ss ≡ o → (p : ℕ) → some p ≡ place_in o
      → place_all ss (b ∷ []) ≡ some (record { place = p; bytes = b } ∷ [])
  unfolding place_all
  fits_at none q p s = let z : ◌≡◌ {A = ℕ} 0 1 = cc in absurd (omega arith)
  fits_at (some f) q p s = let t : p ≡ f.place = cc in rw (q, t)

  fits_nowhere : (o : Maybe Fit) → first_fit (length b) ss ≡ o → none ≡ place_in o → place_all ss (b ∷ []) ≡ none
  unfolding place_all
  fits_nowhere none q s = rw q
  fits_nowhere (some f) q s = let z : ◌≡◌ {A = ℕ} 0 1 = cc in absurd (omega arith)

  pub stored_at : (p : ℕ) → r ≡ Some p → (x : Bytes) → x ≡ put image p b
      → (0 ≡ place_number (place_all ss (b ∷ []))) × (x ≡ stored_or image (place_all ss (b ∷ [])))
  unfolding store_all
  stored_at p q x s =
      let f = fits_at (first_fit (length b) ss) refl p (sym (ap meant q) ∙ rw l at e) in
      (rw f, s ∙ rw f)

  pub stored_nowhere : r ≡ None → (15 ≡ place_number (place_all ss (b ∷ []))) × (image ≡ stored_or image (place_all ss (b ∷ [])))
  stored_nowhere q =
      let f = fits_nowhere (first_fit (length b) ss) refl (sym (ap meant q) ∙ rw l at e) in
      (rw f, rw f)
