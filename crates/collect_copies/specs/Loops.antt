-- The loop that lists the copies: one more place, or the end.
use Rattle.std.specs.Prelude.{ℕ, zero, suc, ◌+◌, ◌≤◌, ◌<◌, ◌≡◌, true, false, cond, length, take, get_or, set}
use Rattle.std.proofs.Math.Path.{refl, ap}
use Rattle.std.proofs.Common.{sym, subst, ◌∙◌, arith, add-one, length-set, length-append, take_all, take-suc, take-suc-set, length-take-le}
use mathlib.Core.List.Memᴰ
use mathlib.Core.List.{List, [], ◌∷◌, ◌++◌, append-nil, Memᴰ}
use Rattle.format.specs.Bytes.{Bytes}
use Rattle.volume.specs.Lists.{keep}
use Rattle.volume_laws.specs.Lists.{keep_append, keep_mem, get_or_mem}
use Rattle.record_places.specs.Place.{Lies, AllLie}
use Rattle.collect_copies.specs.Copied.{Tables, copied, first_at, copied_places, none_same}
use Rattle.collect_copies.specs.First.{first_snoc, first_mem, few_copied}

-- ---- the copies listed

-- the records at the places of a list lie in the image
lies_mem : (image : Bytes) (ps : List ℕ) → AllLie image ps (length ps) → {p : ℕ} → Memᴰ p ps → Lies image p
lies_mem image [] h {p = p} m = elim m [ ]
lies_mem image (q ∷ ps) h (Memᴰ.head e) = rw e (h 0 (omega arith))
lies_mem image (q ∷ ps) h (Memᴰ.tail m) = lies_mem image ps (λ i l. h (suc i) (omega arith)) m

take_mem : (i : ℕ) (ps : List ℕ) {p : ℕ} → Memᴰ p (take i ps) → Memᴰ p ps
take_mem zero ps m = absurd (Memᴰ.not-nil m)
take_mem (suc i) [] m = m
take_mem (suc i) (q ∷ ps) (Memᴰ.head e) = Memᴰ.head e
take_mem (suc i) (q ∷ ps) (Memᴰ.tail m) = Memᴰ.tail (take_mem i ps m)

-- and so do the copies
pub copies_lie : (image : Bytes) (o n : ℕ) (ps : List ℕ) (t : Tables) → AllLie image ps (length ps)
    → AllLie image (copied_places image o n ps t) (length (copied_places image o n ps t))
unfolding copied_places
copies_lie image o n ps t h i l =
    let kept = keep (copied image o n ps t) ps in
    lies_mem image ps h (keep_mem (copied image o n ps t) ps (first_mem image kept (get_or_mem (first_at image kept) i 0 l))).0

-- the first k of l are the copies among the first i places
pub record Choosing (image : Bytes) (o n : ℕ) (ps : List ℕ) (t : Tables) (l₀ l : List ℕ) (k i : ℕ) : Type 0 where
  pub long : length l ≡ length l₀
  pub fits : k ≤ length l
  pub is : take k l ≡ first_at image (keep (copied image o n ps t) (take i ps))

module _ (image : Bytes) (o n : ℕ) (ps : List ℕ) (t : Tables) (l₀ : List ℕ) where
  pub choosing_begins : Choosing image o n ps t l₀ l₀ 0 0
  unfolding first_at keep
  choosing_begins = record { long = refl; fits = omega arith; is = refl }

  module _ (l : List ℕ) (k i : ℕ) (c : Choosing image o n ps t l₀ l k i) where
    abbrev p : ℕ
    p = get_or ps i 0

    pub choosing_lie : AllLie image ps (length ps) → AllLie image (take k l) (length (take k l))
    choosing_lie h j b =
        let m : Memᴰ (get_or (take k l) j 0) (first_at image (keep (copied image o n ps t) (take i ps)))
        = subst (λ z. Memᴰ (get_or (take k l) j 0) z) c.is (get_or_mem (take k l) j 0 b) in
        lies_mem image ps h (take_mem i ps (keep_mem (copied image o n ps t) (take i ps) (first_mem image (keep (copied image o n ps t) (take i ps)) m)).0)

    pub choosing_ends : length ps ≤ i → take k l ≡ copied_places image o n ps t
    unfolding copied_places
    choosing_ends h = c.is ∙ rw (take_all i ps h)

    module _ (h : i < length ps) where
      -- the places passed, with one more
      more : take (i + 1) ps ≡ take i ps ++ (p ∷ [])
      more = rw add-one (take-suc ps i 0 h)

      pub choosing_passes : copied image o n ps t p ≡ false → Choosing image o n ps t l₀ l k (i + 1)
      unfolding keep
      choosing_passes e = record {
        long = c.long;
        fits = c.fits;
        is = c.is ∙ ap (first_at image) (sym (ap (keep (copied image o n ps t)) more ∙ keep_append (copied image o n ps t) (take i ps) (p ∷ [])
            ∙ rw (e, append-nil (keep (copied image o n ps t) (take i ps)))));
      }

      module _ (e : copied image o n ps t p ≡ true) where
        kept : first_at image (keep (copied image o n ps t) (take (i + 1) ps)) ≡ take k l ++ cond (none_same image (take k l) p) (p ∷ []) []
        unfolding keep
        kept =
            ap (first_at image) (ap (keep (copied image o n ps t)) more ∙ keep_append (copied image o n ps t) (take i ps) (p ∷ []) ∙ rw e)
            ∙ first_snoc image (keep (copied image o n ps t) (take i ps)) p
            ∙ rw (sym c.is)

        pub choosing_again : none_same image (take k l) p ≡ false → Choosing image o n ps t l₀ l k (i + 1)
        choosing_again s = record { long = c.long; fits = c.fits; is = sym (kept ∙ rw (s, append-nil (take k l))) }

        module _ (s : none_same image (take k l) p ≡ true) where
          with_one : first_at image (keep (copied image o n ps t) (take (i + 1) ps)) ≡ take k l ++ (p ∷ [])
          with_one = kept ∙ rw s

          pub choosing_room : length t.inodes.ids + length t.blocks.ids ≤ length l₀ → k < length l
          choosing_room b =
              let f = few_copied image o n ps t (take (i + 1) ps) in
              omega (arith, ap length with_one, length-append (take k l) (p ∷ []), length-take-le k l c.fits, c.long)

          pub choosing_takes : k < length l → Choosing image o n ps t l₀ (set l k p) (k + 1) (i + 1)
          choosing_takes r = record {
            long = length-set l k p ∙ c.long;
            fits = omega (arith, length-set l k p);
            is = rw (add-one k) (take-suc-set l k p r ∙ sym with_one);
          }
