-- The source area found by tests of one area after the other. Document 02, T-14.
use Rattle.std.specs.Prelude.{ℕ, suc, ◌+◌, ◌≤◌, ◌<◌, Bool, cond, ◌&&◌, length, drop, get_or, eqb, ltb}
use Rattle.std.proofs.Math.Path.{◌≡◌, refl}
use Rattle.std.proofs.Common.{sym, ◌∙◌, arith}
use Rattle.std.proofs.Math.Bool.{true, false, not}
use Rattle.std.proofs.Math.Option.{Option, none, some}
use mathlib.Core.List.{List, [], ◌∷◌, ◌++◌}
use Rattle.std.proofs.Math.Decide.{dec_lt}
use borrow.Author.Tests.{eq-eqb, ne_eqb, lt-ltb, le-ltb}
use Rattle.format.specs.Bytes.{Bytes}
use Rattle.volume.specs.Lists.{keep, all, first}
use Rattle.volume_laws.specs.Lists.{keep_keep, keep_cong}
use Rattle.calls.specs.Collect.{eligible, count_of, precedes, unpreceded, source_of}
use Rattle.calls.specs.declared.Descriptor.{Descriptor}
use Rattle.table_words.specs.Position.{position_of}
use Rattle.area_list.specs.Described.{area_of, described, described_step, described_end}

-- an area of the wanted length
abbrev pub as_long : ℕ → Descriptor → Bool
as_long wanted d = eqb d.length wanted

-- one whose count precedes another
unfoldable pub ahead : Bytes → ℕ → ℕ → Descriptor → Bool
ahead image wanted count d = as_long wanted d && precedes (count_of image d) count

unfoldable pub none_ahead : Bytes → ℕ → ℕ → List Descriptor → Bool
none_ahead image wanted count fs = all (λ e. not (ahead image wanted count e)) fs

-- one that no other of the wanted length precedes
unfoldable pub leads : Bytes → ℕ → List Descriptor → Descriptor → Bool
leads image wanted fs d = as_long wanted d && none_ahead image wanted (count_of image d) fs

-- the area at a place of the list, where there is one
abbrev pub area_at : List ℕ → List ℕ → ℕ → Option Descriptor
area_at starts spans i = cond (ltb i (length starts)) (some (area_of (get_or starts i 0) (get_or spans i 0))) none

-- the first of the wanted length
area_as_long : (wanted : ℕ) (starts spans : List ℕ) → length starts ≡ length spans
    → area_at starts spans (position_of wanted spans) ≡ first (keep (as_long wanted) (described starts spans))
unfolding first keep described position_of
area_as_long wanted [] [] e = refl
area_as_long wanted [] (n ∷ spans) e = absurd (omega arith)
area_as_long wanted (o ∷ starts) [] e = absurd (omega arith)
area_as_long wanted (o ∷ starts) (n ∷ spans) e = go (eqb n wanted) (area_as_long wanted starts spans (omega arith))
  where
    later : (i : ℕ) → area_at (o ∷ starts) (n ∷ spans) (suc i) ≡ area_at starts spans i
    later i = go (dec_lt i (length starts))
      where
        go : Dec (i < length starts) → area_at (o ∷ starts) (n ∷ spans) (suc i) ≡ area_at starts spans i
        go (yes h) = rw (lt-ltb (suc i) (suc (length starts)) (omega arith), lt-ltb i (length starts) h)
        go (no h) = rw (le-ltb (suc i) (suc (length starts)) (omega arith), le-ltb i (length starts) (omega arith))

    go : (b : Bool) → area_at starts spans (position_of wanted spans) ≡ first (keep (as_long wanted) (described starts spans))
        → area_at (o ∷ starts) (n ∷ spans) (cond b 0 (suc (position_of wanted spans)))
        ≡ first (cond b (area_of o n ∷ keep (as_long wanted) (described starts spans)) (keep (as_long wanted) (described starts spans)))
    go true ih = rw (lt-ltb 0 (suc (length starts)) (omega arith))
    go false ih = later (position_of wanted spans) ∙ ih

-- ---- the source by these tests

module _ (image : Bytes) (t : Descriptor) (fs : List Descriptor) where
  none_eligible : (count : ℕ) (gs : List Descriptor)
      → all (λ e. not (precedes (count_of image e) count)) (eligible gs t) ≡ none_ahead image t.length count gs
  unfolding all keep eligible none_ahead ahead
  none_eligible count [] = refl
  none_eligible count (d ∷ gs) = go (eqb d.length t.length) (none_eligible count gs)
    where
      go : (b : Bool) → all (λ e. not (precedes (count_of image e) count)) (eligible gs t) ≡ none_ahead image t.length count gs
          → all (λ e. not (precedes (count_of image e) count)) (cond b (d ∷ eligible gs t) (eligible gs t))
          ≡ (not (b && precedes (count_of image d) count) && none_ahead image t.length count gs)
      go true ih = rw ih
      go false ih = ih

  unpreceded_leads : keep (unpreceded image (eligible fs t)) (eligible fs t) ≡ keep (leads image t.length fs) fs
  unfolding unpreceded eligible leads
  unpreceded_leads =
      keep_keep (unpreceded image (eligible fs t)) (as_long t.length) fs
      ∙ keep_cong _ _ fs (λ d m. rw (none_eligible (count_of image d) fs))

  source_leads : {s : Descriptor} → first (keep (leads image t.length fs) fs) ≡ some s → source_of image fs t ≡ some s
  unfolding source_of first
  source_leads {s} q = rw unpreceded_leads (go (keep (leads image t.length fs) fs) q)
    where
      go : (k : List Descriptor) → first k ≡ some s → first (k ++ eligible fs t) ≡ some s
      go [] q = let z : ◌≡◌ {A = ℕ} 0 1 = cc in absurd (omega arith)
      go (d ∷ k) q = q

  source_rest : first (keep (leads image t.length fs) fs) ≡ none → source_of image fs t ≡ first (keep (as_long t.length) fs)
  unfolding source_of first eligible
  source_rest q = rw unpreceded_leads (go (keep (leads image t.length fs) fs) q)
    where
      go : (k : List Descriptor) → first k ≡ none → first (k ++ eligible fs t) ≡ first (eligible fs t)
      go [] q = refl
      go (d ∷ k) q = let z : ◌≡◌ {A = ℕ} 0 1 = cc in absurd (omega arith)

-- r is the place of the first area that leads: that is the source; where none leads, it is the first as long as scratch
module _ (image : Bytes) (t : Descriptor) (starts spans : List ℕ) (r : ℕ)
    (leading : area_at starts spans r ≡ first (keep (leads image t.length (described starts spans)) (described starts spans))) where
  pub source_here : r < length starts → area_at starts spans r ≡ source_of image (described starts spans) t
  source_here h =
      let e : area_at starts spans r ≡ some (area_of (get_or starts r 0) (get_or spans r 0)) = rw (lt-ltb r (length starts) h) in
      e ∙ sym (source_leads image t (described starts spans) (sym leading ∙ e))

  pub source_else : length starts ≡ length spans → length starts ≤ r
      → area_at starts spans (position_of t.length spans) ≡ source_of image (described starts spans) t
  source_else pairs h =
      let e : area_at starts spans r ≡ none = rw (le-ltb r (length starts) h) in
      area_as_long t.length starts spans pairs ∙ sym (source_rest image t (described starts spans) (sym leading ∙ e))

-- ---- one area tested

module _ (image : Bytes) (wanted : ℕ) (d : Descriptor) where
  pub other_length : (count : ℕ) → (d.length ≡ wanted → ⊥) → false ≡ ahead image wanted count d
  unfolding ahead
  other_length count h = rw (ne_eqb d.length wanted h)

  pub same_length : (count : ℕ) → d.length ≡ wanted → precedes (count_of image d) count ≡ ahead image wanted count d
  unfolding ahead
  same_length count h = rw (eq-eqb d.length wanted h)

  pub leads_not : (fs : List Descriptor) → (d.length ≡ wanted → ⊥) → false ≡ leads image wanted fs d
  unfolding leads
  leads_not fs h = rw (ne_eqb d.length wanted h)

  pub leads_if : (fs : List Descriptor) → d.length ≡ wanted → none_ahead image wanted (count_of image d) fs ≡ leads image wanted fs d
  unfolding leads
  leads_if fs h = rw (eq-eqb d.length wanted h)

-- ---- the loops, at i

module _ (starts spans : List ℕ) (pairs : length starts ≡ length spans) (i : ℕ) where
  abbrev rest : ℕ → List Descriptor
  rest k = described (drop k starts) (drop k spans)

  abbrev here : Descriptor
  here = area_of (get_or starts i 0) (get_or spans i 0)

  module _ (image : Bytes) (wanted count : ℕ) where
    pub none_fails : i < length starts → ahead image wanted count here ≡ true → none_ahead image wanted count (rest i) ≡ false
    unfolding none_ahead all
    none_fails h e = rw (described_step starts spans i pairs h, e)

    pub none_passes : i < length starts → ahead image wanted count here ≡ false → none_ahead image wanted count (rest i) ≡ none_ahead image wanted count (rest (i + 1))
    unfolding none_ahead all
    none_passes h e = rw (described_step starts spans i pairs h, e)

    pub none_ends : length starts ≤ i → none_ahead image wanted count (rest i) ≡ true
    unfolding none_ahead all
    none_ends h = rw (described_end starts spans i h)

  -- the first area that passes a test
  module _ (test : Descriptor → Bool) where
    pub first_here : i < length starts → test here ≡ true → area_at starts spans i ≡ first (keep test (rest i))
    unfolding first keep
    first_here h e = rw (described_step starts spans i pairs h, e, lt-ltb i (length starts) h)

    pub first_later : i < length starts → test here ≡ false → first (keep test (rest i)) ≡ first (keep test (rest (i + 1)))
    unfolding keep
    first_later h e = rw (described_step starts spans i pairs h, e)

    pub first_nowhere : length starts ≤ i → area_at starts spans i ≡ first (keep test (rest i))
    unfolding first keep
    first_nowhere h = rw (described_end starts spans i h, le-ltb i (length starts) h)
