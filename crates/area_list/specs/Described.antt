-- A list of descriptors as two lists of numbers of one length, starts and spans.
use Rattle.std.specs.Prelude.{ℕ, zero, suc, ◌+◌, ◌≤◌, ◌<◌, ◌≡◌, refl, length, take, drop, get_or, set}
use Rattle.std.proofs.Common.{ap, arith, add-one, length-take, drop_of_length-le, take-suc-set}
use mathlib.Core.List.{List, [], ◌∷◌, ◌++◌, Memᴰ}
use Rattle.std.proofs.Math.Seq.{drop-cons}
use Rattle.calls.specs.declared.Descriptor.{Descriptor}

abbrev pub area_of : ℕ → ℕ → Descriptor
area_of o n = record { offset = o; length = n }

unfoldable pub described : List ℕ → List ℕ → List Descriptor
described [] spans = []
described (o ∷ starts) [] = []
described (o ∷ starts) (n ∷ spans) = area_of o n ∷ described starts spans

pub described_length : (starts spans : List ℕ) → length starts ≡ length spans → length (described starts spans) ≡ length starts
unfolding described
described_length [] spans e = refl
described_length (o ∷ starts) [] e = absurd (omega arith)
described_length (o ∷ starts) (n ∷ spans) e = ap suc (described_length starts spans (omega arith))

module _ (starts spans : List ℕ) (i : ℕ) where
  -- the descriptors from i on: one and the later ones, or none
  pub described_step : length starts ≡ length spans → i < length starts
      → described (drop i starts) (drop i spans) ≡ area_of (get_or starts i 0) (get_or spans i 0) ∷ described (drop (i + 1) starts) (drop (i + 1) spans)
  unfolding described
  described_step e h = rw (drop-cons starts i 0 h, drop-cons spans i 0 (omega arith), add-one)

  pub described_end : length starts ≤ i → described (drop i starts) (drop i spans) ≡ []
  unfolding described
  described_end h = rw (drop_of_length-le starts h)

-- one more behind
join_one : (starts spans : List ℕ) (o n : ℕ) → length starts ≡ length spans
    → described (starts ++ (o ∷ [])) (spans ++ (n ∷ [])) ≡ described starts spans ++ (area_of o n ∷ [])
unfolding described
join_one [] [] o n e = refl
join_one [] (m ∷ spans) o n e = absurd (omega arith)
join_one (p ∷ starts) [] o n e = absurd (omega arith)
join_one (p ∷ starts) (m ∷ spans) o n e = ap (λ l. area_of p m ∷ l) (join_one starts spans o n (omega arith))

-- a descriptor stored at the end of those that stand there
pub described_more : (starts spans : List ℕ) (k o n : ℕ) → k < length starts → k < length spans
    → described (take (k + 1) (set starts k o)) (take (k + 1) (set spans k n)) ≡ described (take k starts) (take k spans) ++ (area_of o n ∷ [])
described_more starts spans k o n h g =
    rw (add-one, take-suc-set starts k o h, take-suc-set spans k n g)
    (join_one (take k starts) (take k spans) o n (omega (arith, length-take k starts, length-take k spans)))

-- the descriptor at i is one of them
pub described_at : (starts spans : List ℕ) (i : ℕ) → i < length starts → i < length spans → Memᴰ (area_of (get_or starts i 0) (get_or spans i 0)) (described starts spans)
unfolding described
described_at [] spans i h g = absurd (omega arith)
described_at (o ∷ starts) [] i h g = absurd (omega arith)
described_at (o ∷ starts) (n ∷ spans) zero h g = Memᴰ.head refl
described_at (o ∷ starts) (n ∷ spans) (suc i) h g = Memᴰ.tail (described_at starts spans i (omega arith) (omega arith))
