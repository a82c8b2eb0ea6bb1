-- An area list as numbers, offset and length in turn: its entries one after the other, and where it ends.
use Prim.Native.Nat.{ℕ, zero, suc, ◌+◌, ◌*◌, ◌≤◌, ◌<◌}
use Rattle.std.specs.Prelude.{◌≡◌, Bool, true, take, drop, get_or}
use Rattle.std.proofs.Math.Path.{refl, sym}
use Rattle.std.proofs.Common.{ap, ◌∙◌, add-one, length-take-le}
use mathlib.Core.List.{List, [], ◌∷◌, ◌++◌, append_assoc, append-nil}
use native.Mathlib.Omega.{arith}
use Rattle.std.proofs.Math.ListN.{length, length-drop}
use Rattle.std.proofs.Math.Seq.{drop-cons, take-add}
use borrow.Author.Tests.{eq-eqb, ne_eqb}
use Rattle.format_laws.specs.Record.{and_left, and_right}
use Rattle.volume.specs.Lists.{all}
use Rattle.calls.specs.Areas.{listed}
use Rattle.area_list.specs.Numbers.{paired}
use Rattle.calls.specs.declared.Descriptor.{Descriptor}
use Rattle.area_list.specs.Described.{area_of}

-- the entries from the number at k on
module _ (areas : List ℕ) (k : ℕ) where
  pub paired_step : k + 1 < length areas → paired (drop k areas) ≡ area_of (get_or areas k 0) (get_or areas (k + 1) 0) ∷ paired (drop (k + 2) areas)
  unfolding paired
  paired_step h =
      let two : k + 2 ≡ suc (suc k) = omega arith in
      rw (drop-cons areas k 0 (omega arith), drop-cons areas (suc k) 0 (omega arith), two, add-one)

  pub paired_end : length areas ≤ k + 1 → paired (drop k areas) ≡ []
  unfolding paired
  paired_end h = go (drop k areas) (omega (arith, length-drop k areas))
    where
      go : (l : List ℕ) → length l ≤ 1 → paired l ≡ []
      go [] g = refl
      go (o ∷ []) g = refl
      go (o ∷ n ∷ l) g = absurd (omega arith)

-- the entry i of a list of pairs, and what follows it
pub pair_step : (areas : List ℕ) (i : ℕ) → i * 2 + 1 < length areas
    → paired (drop (i * 2) areas) ≡ area_of (get_or areas (i * 2) 0) (get_or areas (i * 2 + 1) 0) ∷ paired (drop ((i + 1) * 2) areas)
pair_step areas i h = let e : (i + 1) * 2 ≡ i * 2 + 2 = omega arith in rw e (paired_step areas (i * 2) h)

-- what holds of all entries holds of the later ones, and of the entry i
paired_later : (f : Descriptor → Bool) (i : ℕ) (l : List ℕ) → all f (paired l) ≡ true → all f (paired (drop (i * 2) l)) ≡ true
unfolding paired all
paired_later f zero l e = e
paired_later f (suc i) [] e = let z : suc i * 2 ≡ suc (suc (i * 2)) = omega arith in rw z
paired_later f (suc i) (o ∷ []) e = let z : suc i * 2 ≡ suc (suc (i * 2)) = omega arith in rw z
paired_later f (suc i) (o ∷ n ∷ l) e =
    let z : suc i * 2 ≡ suc (suc (i * 2)) = omega arith in
    rw z (paired_later f i l (and_right (f (area_of o n)) _ e))

pub pair_holds : (f : Descriptor → Bool) (areas : List ℕ) (i : ℕ) → all f (paired areas) ≡ true → i * 2 + 1 < length areas
    → f (area_of (get_or areas (i * 2) 0) (get_or areas (i * 2 + 1) 0)) ≡ true
unfolding all
pair_holds f areas i e h = and_left (f (area_of (get_or areas (i * 2) 0) (get_or areas (i * 2 + 1) 0))) _ (rw (pair_step areas i h) at (paired_later f i areas e))

-- pair i
pub paired_at : (i : ℕ) (l : List ℕ) (e : Descriptor) → i * 2 + 1 < length l → get_or (paired l) i e ≡ area_of (get_or l (i * 2) 0) (get_or l (i * 2 + 1) 0)
unfolding paired
paired_at i [] e h = absurd (omega arith)
paired_at zero (o ∷ []) e h = absurd (omega arith)
paired_at zero (o ∷ n ∷ l) e h = refl
paired_at (suc i) (o ∷ []) e h = absurd (omega arith)
paired_at (suc i) (o ∷ n ∷ l) e h =
    let z : suc i * 2 + 1 ≡ suc (suc (i * 2 + 1)) = omega arith in
    let y : suc i * 2 ≡ suc (suc (i * 2)) = omega arith in
    rw (z, y) (paired_at i l e (omega arith))

-- as many pairs as half the numbers
pub paired_length : (k : ℕ) (l : List ℕ) → length l ≡ k * 2 → length (paired l) ≡ k
unfolding paired
paired_length zero [] e = refl
paired_length zero (o ∷ l) e = absurd (omega arith)
paired_length (suc k) [] e = absurd (omega arith)
paired_length (suc k) (o ∷ []) e = absurd (omega arith)
paired_length (suc k) (o ∷ n ∷ l) e = ap suc (paired_length k l (omega arith))

-- pairs before others
paired_append : (k : ℕ) (l m : List ℕ) → length l ≡ k * 2 → paired (l ++ m) ≡ paired l ++ paired m
unfolding paired
paired_append zero [] m e = refl
paired_append zero (o ∷ l) m e = absurd (omega arith)
paired_append (suc k) [] m e = absurd (omega arith)
paired_append (suc k) (o ∷ []) m e = absurd (omega arith)
paired_append (suc k) (o ∷ n ∷ l) m e = ap (λ (x : List Descriptor). area_of o n ∷ x) (paired_append k l m (omega arith))

-- r is the number of entries, and they stand first
pub record Counted (areas : List ℕ) (r : ℕ) : Type 0 where
  pub within : r * 2 ≤ length areas
  pub is : paired (take (r * 2) areas) ≡ listed (paired areas)

pub counted_length : (areas : List ℕ) (r : ℕ) → Counted areas r → length (listed (paired areas)) ≡ r
counted_length areas r c = sym (ap length c.is) ∙ paired_length r (take (r * 2) areas) (length-take-le (r * 2) areas c.within)

-- the first n entries are passed, and the rest is to come
pub record Counting (areas : List ℕ) (n : ℕ) : Type 0 where
  pub within : n * 2 ≤ length areas
  pub whole : paired (take (n * 2) areas) ++ listed (paired (drop (n * 2) areas)) ≡ listed (paired areas)

pub counting_begins : (areas : List ℕ) → Counting areas 0
unfolding paired
counting_begins areas = record { within = omega arith; whole = refl }

module _ (areas : List ℕ) (n : ℕ) (c : Counting areas n) where
  pub counting_step : n * 2 + 1 < length areas → (get_or areas (n * 2 + 1) 0 ≡ 0 → ⊥) → Counting areas (n + 1)
  unfolding listed paired
  counting_step h e = record { within = omega arith; whole = rw (two, take-add (n * 2) 2 areas, front) (append_assoc (paired (take (n * 2) areas)) (d ∷ []) _ ∙ rw (← two) (ap (λ (x : List Descriptor). paired (take (n * 2) areas) ++ x) (sym next) ∙ c.whole)) }
    where
      d : Descriptor
      d = area_of (get_or areas (n * 2) 0) (get_or areas (n * 2 + 1) 0)

      two : (n + 1) * 2 ≡ n * 2 + 2
      two = omega arith

      next : listed (paired (drop (n * 2) areas)) ≡ d ∷ listed (paired (drop ((n + 1) * 2) areas))
      next = rw (pair_step areas n h, ne_eqb _ _ e)

      front : paired (take (n * 2) areas ++ take 2 (drop (n * 2) areas)) ≡ paired (take (n * 2) areas) ++ (d ∷ [])
      front =
          let s : n * 2 + 1 ≡ suc (n * 2) = omega arith in
          paired_append n (take (n * 2) areas) (take 2 (drop (n * 2) areas)) (length-take-le (n * 2) areas c.within)
          ∙ rw (drop-cons areas (n * 2) 0 (omega arith), drop-cons areas (suc (n * 2)) 0 (omega arith), s)

  pub counting_stops : n * 2 + 1 < length areas → get_or areas (n * 2 + 1) 0 ≡ 0 → Counted areas n
  unfolding listed
  counting_stops h e = record {
    within = c.within;
    is = sym (append-nil _) ∙ rw (← stop) c.whole;
  }
    where
      stop : listed (paired (drop (n * 2) areas)) ≡ []
      stop = rw (paired_step areas (n * 2) h, eq-eqb _ _ e)

  pub counting_ends : length areas ≤ n * 2 + 1 → Counted areas n
  unfolding listed
  counting_ends h = record { within = c.within; is = sym (append-nil _) ∙ rw (← end) c.whole }
    where
      end : listed (paired (drop (n * 2) areas)) ≡ []
      end = rw (paired_end areas (n * 2) h)
