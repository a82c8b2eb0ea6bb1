-- Each "deeper" stands behind the line of a directory that is cut short.
use Prim.Native.Nat.{ℕ, zero, suc, ◌+◌, ◌-◌, ◌≤◌}
use Rattle.std.specs.Prelude.{◌≡◌, ◌⊎◌, Bool, cond, length, T}
use Rattle.std.proofs.Math.Path.{refl}
use Rattle.std.proofs.Common.{ap, inl, inr, ⊎_elim}
use Rattle.std.proofs.Math.Bool.{true, false}
use mathlib.Core.List.{List, [], ◌∷◌, ◌++◌, Memᴰ}
use native.Mathlib.Omega.{arith}
use Rattle.format.specs.Bytes.{Bytes}
use Rattle.format.specs.Ids.{root_id, is_directory_id}
use Rattle.volume.specs.Lists.{keep, joined}
use Rattle.volume.specs.View.{by_bytes}
use Rattle.volume.specs.Counting.{Volume}
use Rattle.volume.specs.Fate.{live, fate_of}
use Rattle.volume.specs.Listing.{most_depth, Line, shown, deeper, deeper_for, show_entry, entries_of, show_directory, tree_lines}
use Rattle.volume_laws.specs.Tests.{true→T}
use Rattle.volume_laws.specs.Sound.{Sound}
use Rattle.volume_laws.specs.Listing.{ids_shown, entries_mem, child, depth_root, root_directory}
use Rattle.tree_told.specs.Words.{lines_of, depth_of, Child, CutShort}
use Rattle.tree_told.specs.Deeper.{is_deeper}

module _ (v : Volume Bytes) (s : Sound by_bytes v) (root : fate_of by_bytes v root_id ≡ live) where
  abbrev CutLine : ℕ → ℕ → Type 0
  CutLine e x = (e ≡ 64) × CutShort v x

  -- right behind a line of which P tells, or behind such a line of its own
  abbrev Led : Type 0 → List Line → Type 0
  Led P [] = Unit {0}
  Led P (shown e x ∷ l) = Led (CutLine e x) l
  Led P (deeper ∷ l) = P × Led ⊥ l

  led_append : (P : Type 0) (l m : List Line) → Led P l → ((Q : Type 0) → Led Q m) → Led P (l ++ m)
  led_append P [] m h k = k P
  led_append P (shown e x ∷ l) m h k = led_append (CutLine e x) l m h k
  led_append P (deeper ∷ l) m h k = (h.0, led_append ⊥ l m h.1 k)

  led_joined : (f : ℕ → List Line) (l : List ℕ) → ((i : ℕ) → Memᴰ i l → (Q : Type 0) → Led Q (f i)) → (Q : Type 0) → Led Q (joined f l)
  unfolding joined
  led_joined f [] h Q = tt
  led_joined f (i ∷ l) h Q =
      led_append Q (f i) (joined f l) (h i (Memᴰ.head refl) Q) (led_joined f l (λ j m. h j (Memᴰ.tail m)))

  led_show : (k d : ℕ) → T (is_directory_id d) → fate_of by_bytes v d ≡ live → depth_of v d + k ≡ 64
      → Led (CutLine (depth_of v d) d) (show_directory by_bytes v k d)
  unfolding show_directory show_entry
  led_show zero d t l q = go (entries_of by_bytes v d) refl
    where
      go : (es : List ℕ) → entries_of by_bytes v d ≡ es → Led (CutLine (depth_of v d) d) (deeper_for es)
      go [] e = tt
      go (i ∷ es) e =
          let c = child by_bytes v s d i t (entries_mem by_bytes v d i (rw e (Memᴰ.head refl))) in
          let has : Child v d i = record { lives = c.lives; own = c.own; counts = c.counts; parent = c.parent } in
          ((omega (arith, q), record { lives = l; deep = omega (arith, q); child = i; has = has }), tt)
  led_show (suc k) d t l q =
      led_joined (show_entry (show_directory by_bytes v k) (most_depth - k)) (entries_of by_bytes v d)
      (λ i m Q. let c = child by_bytes v s d i t (entries_mem by_bytes v d i m) in
      each i c.deep (is_directory_id i) refl (λ u. led_show k i u c.lives (omega (arith, c.deep, q))))
      (CutLine (depth_of v d) d)
    where
      each : (i : ℕ) → depth_of v i ≡ suc (depth_of v d) → (b : Bool) → is_directory_id i ≡ b
          → (T (is_directory_id i) → Led (CutLine (depth_of v i) i) (show_directory by_bytes v k i))
          → Led (CutLine (most_depth - k) i) (cond b (show_directory by_bytes v k i) [])
      each i p true e ih = let z : most_depth - k ≡ depth_of v i = omega arith in rw z (ih (true→T e))
      each i p false e ih = tt

  abbrev BehindCut : List Line → Type 0
  BehindCut front = (before : List Line) × (d : ℕ) × (front ≡ before ++ (shown 64 d ∷ [])) × CutShort v d

  led_found : (P : Type 0) (front behind : List Line) → Led P (front ++ (deeper ∷ behind)) → ((front ≡ []) × P) ⊎ BehindCut front
  led_found P [] behind h = inl (refl, h.0)
  led_found P (shown e x ∷ front) behind h = inr (⊎_elim
      (λ r. ([], x, (λ i. shown (r.1.0 i) x ∷ r.0 i), r.1.1))
      (λ r. (shown e x ∷ r.0, r.1, ap (λ l. shown e x ∷ l) r.2, r.3))
      (led_found (CutLine e x) front behind h))
  led_found P (deeper ∷ front) behind h = inr (⊎_elim
      (λ r. absurd r.1)
      (λ r. (deeper ∷ r.0, r.1, ap (λ l. deeper ∷ l) r.2, r.3))
      (led_found ⊥ front behind h.1))

  tree_led : Led ⊥ (lines_of v)
  unfolding tree_lines
  tree_led =
      let h = led_show most_depth root_id (root_directory by_bytes v s) root (omega (arith, depth_root by_bytes v)) in
      rw (depth_root by_bytes v) at h

  pub deeper_only : (front behind : List Line) → lines_of v ≡ front ++ (deeper ∷ behind) → BehindCut front
  deeper_only front behind e =
      ⊎_elim (λ r. absurd r.1) (λ r. r) (led_found ⊥ front behind (rw e at tree_led))

  -- so there are no more of them than inodes shown
  led_few : (P : Type 0) (l : List Line) → Led P l
      → (length (keep is_deeper l) ≤ suc (length (ids_shown l))) × (¬ P → length (keep is_deeper l) ≤ length (ids_shown l))
  unfolding keep ids_shown
  led_few P [] h = (omega arith, λ n. omega arith)
  led_few P (shown e x ∷ l) h = let r = led_few (CutLine e x) l h in (omega (arith, r.0), λ n. r.0)
  led_few P (deeper ∷ l) h = let r = (led_few ⊥ l h.1).1 (λ z. z) in (omega (arith, r), λ n. absurd (n h.0))

  pub deeper_few : length (keep is_deeper (lines_of v)) ≤ length (ids_shown (lines_of v))
  deeper_few = (led_few ⊥ (lines_of v) tree_led).1 (λ z. z)
