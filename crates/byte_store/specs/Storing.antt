-- The loop that stores bytes one by one: the invariants of put and of copy, which differ only in where the bytes come from.
use Rattle.std.specs.Prelude.{ℕ, ◌+◌, ◌≤◌, ◌<◌, ◌≡◌, refl, [], ◌∷◌, ◌++◌, length, set, take}
use Rattle.std.proofs.Common.{sym, ap, ◌∙◌, arith, add-one, length-set, length-take-le, take-suc}
use Rattle.std.proofs.lemmas.List.{set_split}
use Rattle.format.specs.Bytes.{Bytes, byte_at}
use Rattle.calls.specs.Image.{put, part}
use Rattle.image_laws.specs.Apart.{Apart}
use Rattle.image_laws.specs.Laws.{part_length, part_byte, put_none, length_put, byte_outside, put_put}

-- the image x is x₀ with the first i bytes of b stored from p on
pub record Storing (x₀ : Bytes) (p : ℕ) (b : Bytes) (i : ℕ) (x : Bytes) : Type 0 where
  pub within : i ≤ length b
  pub long : length x ≡ length x₀
  pub stored : x ≡ put x₀ p (take i b)

-- one byte stored is a put of one byte
set_put : (x : Bytes) (p v : ℕ) → p < length x → set x p v ≡ put x p (v ∷ [])
unfolding put
set_put x p v h = rw (set_split x p v h, ← add-one)

module _ (x₀ : Bytes) (p : ℕ) (b : Bytes) where
  pub storing_begins : Storing x₀ p b 0 x₀
  storing_begins = record { within = omega arith; long = refl; stored = sym (put_none x₀ p) }

  module _ (i : ℕ) (x : Bytes) (s : Storing x₀ p b i x) (fits : p + length b ≤ length x₀) where
    pub storing_step : (v : ℕ) → i < length b → v ≡ byte_at b i → Storing x₀ p b (i + 1) (set x (p + i) v)
    storing_step v h e =
        let k = length-take-le i b s.within in
        let one : set x (p + i) v ≡ put x (p + i) (v ∷ []) = set_put x (p + i) v (omega arith) in
        let next : take (i + 1) b ≡ take i b ++ (v ∷ []) = rw (add-one, take-suc b i 0, e) in
        let both = put_put x₀ p (take i b) (v ∷ []) (omega arith) in
        record {
          within = omega arith;
          long = ap length one ∙ length_put x (p + i) (v ∷ []) (omega arith) ∙ s.long;
          stored = one ∙ rw (s.stored, next) (rw k at both);
        }

-- where the bytes are those of another place of the image, apart from where they go, the next of them is still there
storing_copied : (x₀ : Bytes) (from to n i : ℕ) (x : Bytes) → Storing x₀ to (part x₀ from n) i x
    → (from + n ≤ length x₀) × (to + n ≤ length x₀) → Apart from n to n → i < n → byte_at x (from + i) ≡ byte_at (part x₀ from n) i
storing_copied x₀ from to n i x s (f, t) a h =
    let l = part_length x₀ from n f in
    let k = length-take-le i (part x₀ from n) s.within in
    ap (λ (y : Bytes). byte_at y (from + i)) s.stored
    ∙ byte_outside x₀ to (take i (part x₀ from n)) (omega arith) (from + i) (λ j g e. a.no_common i j h (omega arith) e)
    ∙ sym (part_byte x₀ from n i h)

-- the invariant of copy: what is stored is told only where the two places share no byte
pub record Copying (x₀ : Bytes) (from to n i : ℕ) (x : Bytes) : Type 0 where
  pub long : length x ≡ length x₀
  pub storing : Apart from n to n → Storing x₀ to (part x₀ from n) i x

module _ (x₀ : Bytes) (from to n : ℕ) where
  pub copying_begins : Copying x₀ from to n 0 x₀
  copying_begins = record { long = refl; storing = λ a. storing_begins x₀ to (part x₀ from n) }

  module _ (i : ℕ) (x : Bytes) (c : Copying x₀ from to n i x) (fits : (from + n ≤ length x₀) × (to + n ≤ length x₀)) where
    long_part : length (part x₀ from n) ≡ n
    long_part = part_length x₀ from n fits.0

    pub copying_step : i < n → Copying x₀ from to n (i + 1) (set x (to + i) (byte_at x (from + i)))
    copying_step h = record {
      long = length-set x (to + i) (byte_at x (from + i)) ∙ c.long;
      storing = λ a. storing_step x₀ to (part x₀ from n) i x (c.storing a) (rw long_part fits.1) _ (rw long_part h)
          (storing_copied x₀ from to n i x (c.storing a) fits a h);
    }
