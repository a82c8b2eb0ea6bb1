-- Where a path is walked: the step that fails, and its number.
use Prim.Native.Nat.{ℕ}
use Rattle.std.proofs.Math.Path.{◌≡◌, refl, sym}
use Rattle.std.proofs.Common.{ap, ◌∙◌, inl, inr, eqb→eq}
use Rattle.std.specs.Prelude.{◌≢◌, Bool, true, false, ◌&&◌, eqb}
use mathlib.Core.List.Memᴰ
use mathlib.Core.List.{List, [], ◌∷◌, ◌++◌, append_assoc, Memᴰ}
use native.Mathlib.Omega.{arith}
use Rattle.std.proofs.Math.Dec.{T, eqb_refl}
use Rattle.format.specs.Bytes.{Bytes}
use Rattle.format.specs.Ids.{root_id, is_directory_id}
use Rattle.volume.specs.Lists.{same, has, Only, nobody, several, one, only}
use Rattle.volume.specs.View.{by_bytes}
use Rattle.volume.specs.Counting.{Volume, inode_of, inode_ids}
use Rattle.volume.specs.Fate.{is_live, fate_of}
use Rattle.volume.specs.Tree.{Found, found, absent, onward, is_entry, is_child, children, walk, lookup_names}
use Rattle.volume_laws.specs.Tests.{true→T, T→true, not_T→false, and_T, T_and, has_some}
use Rattle.volume_laws.specs.Lists.{same_refl, same_eq}
use Rattle.volume_laws.specs.Once.{Nodup, nodup_keep}
use Rattle.volume_laws.specs.Counting.{ids_of_lem}
use Rattle.volume_laws.specs.Climb.{is_live_lem}
use Rattle.volume_laws.specs.Tree.{mem_children, children_mem, lookup_append}
use Rattle.demand1.specs.Table.{Row, Answers, FailsAt, LiveChild, NoChild, TwoChildren, NoDirectory, walk_rows}
use Rattle.demand1.specs.Mounting.{Means}

-- the test for a child means what it says
pub child_means : (v : Volume Bytes) (d : ℕ) (n : Bytes) (i : ℕ) → Means (is_child by_bytes v d n i) (LiveChild v d n i)
unfolding is_child is_entry
child_means v d n i = (to, back)
  where
    to : (has (is_entry by_bytes d n) (inode_of by_bytes v i) && is_live (fate_of by_bytes v i)) ≡ true → LiveChild v d n i
    to e =
        let t = and_T (has (is_entry by_bytes d n) (inode_of by_bytes v i)) (is_live (fate_of by_bytes v i)) (true→T e) in
        let s = has_some (is_entry by_bytes d n) (inode_of by_bytes v i) t.0 in
        let u = and_T (eqb (by_bytes.parent s.0) d) (same (by_bytes.name s.0) n) s.2 in
        record {
          counted = s.0;
          counts = s.1;
          parent_is = eqb→eq (by_bytes.parent s.0) d u.0;
          name_is = same_eq (by_bytes.name s.0) n u.1;
          lives = is_live_lem (fate_of by_bytes v i) t.1;
        }

    back : (has (is_entry by_bytes d n) (inode_of by_bytes v i) && is_live (fate_of by_bytes v i)) ≡ false → ¬ LiveChild v d n i
    back e c =
        let t : T (is_entry by_bytes d n c.counted && true)
        = T_and (is_entry by_bytes d n c.counted) true
        (T_and (eqb (by_bytes.parent c.counted) d) (same (by_bytes.name c.counted) n) (rw c.parent_is (eqb_refl d))
        (rw c.name_is (same_refl n))) tt in
        let q : (is_entry by_bytes d n c.counted && true) ≡ false = rw (c.counts, c.lives) at e in
        rw q at t

module _ (v : Volume Bytes) where
  -- the children of a name, none, one or several
  only_nobody : (d : ℕ) (n : Bytes) → ((i : ℕ) → ¬ LiveChild v d n i) → only (children by_bytes v d n) ≡ nobody
  unfolding only
  only_nobody d n h = go (children by_bytes v d n) (children_mem by_bytes v d n)
    where
      go : (l : List ℕ) → ((i : ℕ) → Memᴰ i l → T (is_child by_bytes v d n i)) → only l ≡ nobody
      go [] k = refl
      go (i ∷ l) k = absurd (h i ((child_means v d n i).0 (T→true (k i (Memᴰ.head refl)))))

  nobody_only : (d : ℕ) (n : Bytes) → only (children by_bytes v d n) ≡ nobody → (i : ℕ) → ¬ LiveChild v d n i
  unfolding only
  nobody_only d n e i = (child_means v d n i).1 (not_T→false (λ t. go (children by_bytes v d n) e (mem_children by_bytes v d n i t)))
    where
      go : (l : List ℕ) → only l ≡ nobody → Memᴰ i l → ⊥
      go [] e m = Memᴰ.not-nil m
      go (j ∷ []) e m = let z : ◌≡◌ {A = ℕ} 0 1 = cc in omega arith
      go (j ∷ k ∷ l) e m = let z : ◌≡◌ {A = ℕ} 0 1 = cc in omega arith

  pub child_listed : (d : ℕ) (n : Bytes) (i : ℕ) → LiveChild v d n i → Memᴰ i (children by_bytes v d n)
  child_listed d n i c = go (is_child by_bytes v d n i) refl
    where
      go : (b : Bool) → is_child by_bytes v d n i ≡ b → Memᴰ i (children by_bytes v d n)
      go true e = mem_children by_bytes v d n i (true→T e)
      go false e = absurd ((child_means v d n i).1 e c)

  only_several : (d : ℕ) (n : Bytes) (i j : ℕ) → i ≢ j → LiveChild v d n i → LiveChild v d n j → only (children by_bytes v d n) ≡ several
  unfolding only
  only_several d n i j h a b = go (children by_bytes v d n) (child_listed d n i a) (child_listed d n j b)
    where
      go : (l : List ℕ) → Memᴰ i l → Memᴰ j l → only l ≡ several
      go [] p q = absurd (Memᴰ.not-nil p)
      go (k ∷ []) p q = absurd (h (Memᴰ.eq_of_singleton p ∙ sym (Memᴰ.eq_of_singleton q)))
      go (k ∷ m ∷ l) p q = refl

  several_only : (d : ℕ) (n : Bytes) → only (children by_bytes v d n) ≡ several
      → (i j : ℕ) × (i ≢ j) × LiveChild v d n i × LiveChild v d n j
  unfolding only children
  several_only d n e =
      go (children by_bytes v d n) e (nodup_keep (is_child by_bytes v d n) (inode_ids by_bytes v) (ids_of_lem by_bytes v.inodes).nodup)
      (children_mem by_bytes v d n)
    where
      go : (l : List ℕ) → only l ≡ several → Nodup l → ((i : ℕ) → Memᴰ i l → T (is_child by_bytes v d n i))
          → (i j : ℕ) × (i ≢ j) × LiveChild v d n i × LiveChild v d n j
      go [] e u k = let z : ◌≡◌ {A = ℕ} 0 1 = cc in absurd (omega arith)
      go (i ∷ []) e u k = let z : ◌≡◌ {A = ℕ} 0 1 = cc in absurd (omega arith)
      go (i ∷ j ∷ l) e u k = (
        i,
        j,
        (λ z. u.0 (Memᴰ.head z)),
        (child_means v d n i).0 (T→true (k i (Memᴰ.head refl))),
        (child_means v d n j).0 (T→true (k j (Memᴰ.tail (Memᴰ.head refl)))),
      )

  -- a walk that fails, with its number
  data WalkFails (ns : List Bytes) (r : ℕ) : Type 0 where
    nine : r ≡ 9 → FailsAt v ns (NoChild v) → WalkFails ns r
    ten : r ≡ 10 → FailsAt v ns (TwoChildren v) → WalkFails ns r
    eleven : r ≡ 11 → FailsAt v ns NoDirectory → WalkFails ns r

  walk_fails : (ns ms : List Bytes) (d r : ℕ) → lookup_names by_bytes v ms ≡ found d → walk by_bytes v d ns ≡ absent r → WalkFails (ms ++ ns) r
  unfolding walk
  walk_fails [] ms d r l q = let z : ◌≡◌ {A = ℕ} 0 1 = cc in absurd (omega arith)
  walk_fails (n ∷ ns) ms d r l q = go (is_directory_id d) refl (only (children by_bytes v d n)) refl q (walk_fails ns (ms ++ (n ∷ [])))
    where
      at : (why : ℕ → Bytes → Type 0) → why d n → FailsAt v (ms ++ (n ∷ ns)) why
      at why w = record { before = ms; name = n; behind = ns; split = refl; inode = d; led = l; fails = w }

      one_more : (i : ℕ) → is_directory_id d ≡ true → only (children by_bytes v d n) ≡ one i → lookup_names by_bytes v (ms ++ (n ∷ [])) ≡ found i
      one_more i a b = lookup_append by_bytes v ms (n ∷ []) ∙ rw (l, walk, a, b)

      go : (b : Bool) → is_directory_id d ≡ b → (o : Only ℕ) → only (children by_bytes v d n) ≡ o → onward b o (λ i. walk by_bytes v i ns) ≡ absent r
          → ((i r : ℕ) → lookup_names by_bytes v (ms ++ (n ∷ [])) ≡ found i → walk by_bytes v i ns ≡ absent r → WalkFails ((ms ++ (n ∷ [])) ++ ns) r)
          → WalkFails (ms ++ (n ∷ ns)) r
      go false a o b q ih = eleven (cc) (at NoDirectory a)
      go true a nobody b q ih = nine (cc) (at (NoChild v) (a, nobody_only d n b))
      go true a several b q ih = ten (cc) (at (TwoChildren v) (a, several_only d n b))
      go true a (one i) b q ih = rw (append_assoc ms (n ∷ []) ns) at (ih i r (one_more i a b) q)

  -- and back
  fails_walk : (ns : List Bytes) (why : ℕ → Bytes → Type 0) (r : ℕ)
      → ((d : ℕ) (n : Bytes) (ms : List Bytes) → why d n → walk by_bytes v d (n ∷ ms) ≡ absent r)
      → FailsAt v ns why → lookup_names by_bytes v ns ≡ absent r
  fails_walk ns why r h f =
      ap (lookup_names by_bytes v) f.split
      ∙ lookup_append by_bytes v f.before (f.name ∷ f.behind)
      ∙ rw f.led (h f.inode f.name f.behind f.fails)

  nine_walk : (ns : List Bytes) → FailsAt v ns (NoChild v) → lookup_names by_bytes v ns ≡ absent 9
  unfolding walk
  nine_walk ns = fails_walk ns (NoChild v) 9 (λ d n ms w. rw (walk, w.0, only_nobody d n w.1))

  ten_walk : (ns : List Bytes) → FailsAt v ns (TwoChildren v) → lookup_names by_bytes v ns ≡ absent 10
  unfolding walk
  ten_walk ns = fails_walk ns (TwoChildren v) 10
      (λ d n ms w. rw (walk, w.0, only_several d n w.1.0 w.1.1 w.1.2 w.1.3 w.1.4))

  eleven_walk : (ns : List Bytes) → FailsAt v ns NoDirectory → lookup_names by_bytes v ns ≡ absent 11
  unfolding walk
  eleven_walk ns = fails_walk ns NoDirectory 11 (λ d n ms w. rw (walk, w))

-- what a call answers where a walk led
abbrev pub found_or : (ℕ → ℕ) → Found → ℕ
found_or m (found i) = m i
found_or m (absent r) = r

not_found : {i r : ℕ} → found i ≡ absent r → ⊥
not_found e = let z : ◌≡◌ {A = ℕ} 0 1 = cc in omega arith

absent_once : {r s : ℕ} → absent r ≡ absent s → r ≡ s
absent_once e = cc

pub walk_answers : (v : Volume Bytes) (ns : List Bytes) (rest : List Row) (m : ℕ → ℕ)
    → ((i : ℕ) → lookup_names by_bytes v ns ≡ found i → Answers rest (m i))
    → Answers (walk_rows v ns ++ rest) (found_or m (lookup_names by_bytes v ns))
unfolding Answers lookup_names walk
walk_answers v ns rest m h = go (lookup_names by_bytes v ns) refl
  where
    off : (o : Found) → lookup_names by_bytes v ns ≡ o → (r : ℕ) → o ≢ absent r → lookup_names by_bytes v ns ≢ absent r
    off o q r n e = n (sym q ∙ e)

    go : (o : Found) → lookup_names by_bytes v ns ≡ o → Answers (walk_rows v ns ++ rest) (found_or m o)
    go (found i) q = inr (
      (λ f. off (found i) q 9 not_found (nine_walk v ns f)),
      inr (
        (λ f. off (found i) q 10 not_found (ten_walk v ns f)),
        inr ((λ f. off (found i) q 11 not_found (eleven_walk v ns f)), h i q),
      ),
    )
    go (absent r) q = at (walk_fails v ns [] root_id r refl q)
      where
        at : WalkFails v ns r → Answers (walk_rows v ns ++ rest) r
        at (nine e f) = inl (f, e)
        at (ten e f) = inr (
          (λ g. off (absent r) q 9 (λ z. let y = absent_once z in omega arith) (nine_walk v ns g)),
          inl (f, e),
        )
        at (eleven e f) = inr (
          (λ g. off (absent r) q 9 (λ z. let y = absent_once z in omega arith) (nine_walk v ns g)),
          inr ((λ g. off (absent r) q 10 (λ z. let y = absent_once z in omega arith) (ten_walk v ns g)), inl (f, e)),
        )
