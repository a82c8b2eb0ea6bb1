-- Lineages: what lies at or below an inode, which is then in its lineage; and what a walk comes by.
use Prim.Native.Nat.{ℕ, zero, suc, ◌≤◌}
use Rattle.std.proofs.Math.Path.{◌≡◌, refl, sym, ap}
use Rattle.std.proofs.Common.{◌∙◌, inl, inr, ⊎_elim}
use Rattle.std.specs.Prelude.{◌⊎◌, ◌≢◌, Bool, false, length, T, eqb}
use Rattle.std.proofs.Math.Bool.{true}
use Rattle.std.proofs.Math.Option.{Option, some}
use mathlib.Core.List.Memᴰ
use mathlib.Core.List.{List, [], ◌∷◌, ◌++◌, Memᴰ}
use native.Mathlib.Omega.{arith}
use Rattle.std.proofs.Math.Decide.{ℕ_discrete}
use Rattle.std.proofs.Math.Dec.{eqb→eq}
use Rattle.format.specs.Bytes.{Bytes}
use Rattle.format.specs.Ids.{root_id, is_directory_id}
use Rattle.volume.specs.Lists.{same, has, Only, nobody, several, one, only}
use Rattle.volume.specs.View.{View}
use Rattle.volume.specs.Counting.{Volume, inode_of}
use Rattle.volume.specs.Fate.{Fate, live, is_live, ascend, climb, longest_chain, fate_of, lineage, names_of}
use Rattle.volume.specs.Tree.{found, absent, onward, is_entry, is_child, children, walk, lookup_names}
use Rattle.volume_laws.specs.Tests.{and_T, has_some}
use Rattle.volume_laws.specs.Lists.{same_eq}
use Rattle.volume_laws.specs.Counting.{counting_mem}
use Rattle.volume_laws.specs.Climb.{chain_within, climb_on, ascend_on, fate_parent, live_within}
use Rattle.volume_laws.specs.Sound.{Sound}
use Rattle.volume_laws.specs.Tree.{walk_append}
use Rattle.demand2.specs.Found.{Stepped, stepped, sole, no_child, child_lives, child_above}

-- whether a number is among some
pub mem_dec : (x : ℕ) (l : List ℕ) → Dec (Memᴰ x l)
mem_dec x [] = no Memᴰ.not-nil
mem_dec x (y ∷ l) = go (ℕ_discrete x y) (mem_dec x l)
  where
    go : Dec (x ≡ y) → Dec (Memᴰ x l) → Dec (Memᴰ x (y ∷ l))
    go (yes e) b = yes (Memᴰ.head e)
    go (no e) (yes m) = yes (Memᴰ.tail m)
    go (no e) (no m) = no (λ k. ⊎_elim e m (Memᴰ.cases_cons k))

module _ {A : Type 0} (F : View A) (v : Volume A) where
  -- ---- from an inode to its parent

  -- what is gathered from a live inode that has a parent is gathered from the parent, and then from itself
  climb_parent : {X : Type 0} (stop : Fate → X) (on : A → X → X) (j : ℕ) (s : A) → fate_of F v j ≡ live → ascend F (inode_of F v j) ≡ inr s
      → climb F stop on (inode_of F v) (longest_chain F v) j ≡ on s (climb F stop on (inode_of F v) (longest_chain F v) (F.parent s))
  climb_parent stop on j s l q =
      sym (live_within F stop on v (suc (longest_chain F v)) j (omega arith) l) ∙ climb_on F stop on (inode_of F v) (longest_chain F v) j s q

  -- its lineage: itself, and then the lineage of its parent
  pub lineage_step : (j : ℕ) (s : A) → fate_of F v j ≡ live → ascend F (inode_of F v j) ≡ inr s → lineage F v j ≡ j ∷ lineage F v (F.parent s)
  unfolding lineage
  lineage_step j s l q = ap (λ (x : List ℕ). j ∷ x) (climb_parent (λ f. []) (λ r l. F.parent r ∷ l) j s l q)

  -- its names: those of its parent, and then its own
  pub names_step : (j : ℕ) (s : A) → fate_of F v j ≡ live → ascend F (inode_of F v j) ≡ inr s
      → names_of F v j ≡ names_of F v (F.parent s) ++ (F.name s ∷ [])
  unfolding names_of
  names_step = climb_parent (λ f. []) (λ r l. l ++ (F.name r ∷ []))

  -- ---- what lies at or below an inode

  -- what holds of i, and of an inode where it holds of its parent, holds of all at or below i
  pub below : (i : ℕ) (Q : ℕ → Type 0) → Q i → ((j : ℕ) (s : A) → j ≢ i → ascend F (inode_of F v j) ≡ inr s → Q (F.parent s) → Q j)
      → (j : ℕ) → Memᴰ i (lineage F v j) → Q j
  unfolding lineage climb
  below i Q here down j m = go (longest_chain F v) j m
    where
      go : (k j : ℕ) → Memᴰ i (chain_within F (inode_of F v) k j) → Q j
      go zero j m = rw (← Memᴰ.eq_of_singleton m) here
      go (suc k) j m = at (ℕ_discrete j i) (ascend F (inode_of F v j)) refl (go k)
        where
          at : Dec (j ≡ i) → (a : Fate ⊎ A) → ascend F (inode_of F v j) ≡ a
              → ((x : ℕ) → Memᴰ i (chain_within F (inode_of F v) k x) → Q x) → Q j
          at (yes e) a q ih = rw e here
          at (no e) (inl f) q ih = absurd (e (sym (Memᴰ.eq_of_singleton (rw (climb, q) at m))))
          at (no e) (inr s) q ih = down j s e q
              (ih (F.parent s) (⊎_elim (λ z. absurd (e (sym z))) (λ n. n) (Memᴰ.cases_cons (rw (climb, q) at m))))

  -- all of a lineage have one fate
  pub lineage_fate : (x j : ℕ) → Memᴰ x (lineage F v j) → fate_of F v x ≡ fate_of F v j
  lineage_fate x = below x (λ j. fate_of F v x ≡ fate_of F v j) refl (λ j s n q h. h ∙ sym (fate_parent F v j s q))

  -- as above, of a live inode, below which all are live
  pub below_live : (i : ℕ) (Q : ℕ → Type 0) → fate_of F v i ≡ live → Q i
      → ((j : ℕ) (s : A) → j ≢ i → fate_of F v j ≡ live → ascend F (inode_of F v j) ≡ inr s → Q (F.parent s) → Q j)
      → (j : ℕ) → Memᴰ i (lineage F v j) → Q j
  below_live i Q l here down j m =
      (below i (λ x. (fate_of F v x ≡ live) × Q x) (l, here)
      (λ x s n q h. let f = fate_parent F v x s q ∙ h.0 in (f, down x s n f q h.1)) j m).1

  -- the lineage of a live inode is no longer than that of what lies below it
  shorter : (i : ℕ) → fate_of F v i ≡ live → (j : ℕ) → Memᴰ i (lineage F v j) → length (lineage F v i) ≤ length (lineage F v j)
  shorter i l = below_live i (λ j. length (lineage F v i) ≤ length (lineage F v j)) l (omega arith)
      (λ j s n f q h. let e = ap length (lineage_step j s f q) in omega arith)

  -- the root is below no other inode
  pub root_outside : (i : ℕ) → i ≢ root_id → ¬ Memᴰ i (lineage F v root_id)
  root_outside i n m = below i (λ j. j ≢ root_id) n (λ j s a q h z.
      let t = ascend_on F (inode_of F v j) s q in t.1 ((counting_mem F v.inodes j s t.0).1 ∙ z)) root_id m refl

  -- ---- children of directories

  module _ (sound : Sound F v) where
    -- a live child of a directory: itself, and then the lineage of the directory
    pub child_lineage : (d : ℕ) (n : Bytes) (j : ℕ) → is_directory_id d ≡ true → T (is_child F v d n j) → lineage F v j ≡ j ∷ lineage F v d
    child_lineage d n j dir t =
        let c = child_above F v sound d n j dir t in
        lineage_step j c.0 (child_lives F v d n j t) c.1 ∙ ap (λ x. j ∷ lineage F v x) c.2

    -- another child of a directory that is not at or below i is not either
    pub child_outside : (i d : ℕ) (n : Bytes) (x : ℕ) → is_directory_id d ≡ true → ¬ Memᴰ i (lineage F v d) → T (is_child F v d n x) → i ≢ x
        → ¬ Memᴰ i (lineage F v x)
    child_outside i d n x dir b t q m = ⊎_elim q b (Memᴰ.cases_cons (rw (child_lineage d n x dir t) at m))

    -- a directory is not at or below its child
    pub parent_outside : (d : ℕ) (n : Bytes) (j : ℕ) → is_directory_id d ≡ true → T (is_child F v d n j) → ¬ Memᴰ j (lineage F v d)
    parent_outside d n j dir t m =
        let e = ap length (child_lineage d n j dir t) in
        omega (arith, shorter j (child_lives F v d n j t) d m)

    -- the root is no directory's child
    child_no_root : (d : ℕ) (n : Bytes) (j : ℕ) → is_directory_id d ≡ true → T (is_child F v d n j) → j ≢ root_id
    child_no_root d n j dir t e =
        let c = child_above F v sound d n j dir t in
        let u = ascend_on F (inode_of F v j) c.0 c.1 in
        u.1 ((counting_mem F v.inodes j c.0 u.0).1 ∙ e)

    -- no name leads to it from any directory
    walk_no_root : (d : ℕ) (ns : List Bytes) (j : ℕ) → length ns ≢ 0 → walk F v d ns ≡ found j → j ≢ root_id
    unfolding walk
    walk_no_root d [] j h q = absurd (h refl)
    walk_no_root d (n ∷ []) j h q =
        let t = stepped F v d n [] j q in
        let c = t.goes_on in
        let z : t.child ≡ j = cc in
        rw (← z) (child_no_root d n t.child t.directory (sole F v d n t.child t.only_child).0)
    walk_no_root d (n ∷ m ∷ ns) j h q =
        let t = stepped F v d n (m ∷ ns) j q in
        walk_no_root t.child (m ∷ ns) j (λ z. omega arith) t.goes_on

    -- nor from the root
    pub found_no_root : (ns : List Bytes) (j : ℕ) → length ns ≢ 0 → lookup_names F v ns ≡ found j → j ≢ root_id
    unfolding lookup_names
    found_no_root ns j h q = walk_no_root root_id ns j h q

    -- what is found below a directory that is at or below i, is so too
    pub found_below : (i d : ℕ) (ns : List Bytes) (j : ℕ) → walk F v d ns ≡ found j → Memᴰ i (lineage F v d) → Memᴰ i (lineage F v j)
    unfolding walk
    found_below i d [] j q m = let z : d ≡ j = cc in rw (← z) m
    found_below i d (n ∷ ns) j q m =
        let t = stepped F v d n ns j q in
        let k = child_lineage d n t.child t.directory (sole F v d n t.child t.only_child).0 in
        found_below i t.child ns j t.goes_on (rw k (Memᴰ.tail m))

  -- and so what is found and is not the root has a name
  pub found_named : (ns : List Bytes) (j : ℕ) → j ≢ root_id → lookup_names F v ns ≡ found j → length ns ≢ 0
  unfolding lookup_names walk
  found_named [] j n q h = let z : j ≡ root_id = cc in n z
  found_named (m ∷ ns) j n q h = omega arith

  -- an inode is the child of one directory, under one name
  one_entry : (d e : ℕ) (n m : Bytes) (j : ℕ) → T (is_child F v d n j) → T (is_child F v e m j) → (d ≡ e) × (n ≡ m)
  unfolding is_child is_entry
  one_entry d e n m j t u =
      let a = has_some (is_entry F d n) (inode_of F v j) (and_T (has (is_entry F d n) (inode_of F v j)) (is_live (fate_of F v j)) t).0 in
      let b = has_some (is_entry F e m) (inode_of F v j) (and_T (has (is_entry F e m) (inode_of F v j)) (is_live (fate_of F v j)) u).0 in
      let x = and_T (eqb (F.parent a.0) d) (same (F.name a.0) n) a.2 in
      let y = and_T (eqb (F.parent b.0) e) (same (F.name b.0) m) b.2 in
      let q : ◌≡◌ {A = Option A} (some a.0) (some b.0) = sym a.1 ∙ b.1 in
      let z : a.0 ≡ b.0 = cc in (
        sym (eqb→eq (F.parent a.0) d x.0) ∙ ap F.parent z ∙ eqb→eq (F.parent b.0) e y.0,
        sym (same_eq (F.name a.0) n x.1) ∙ ap F.name z ∙ same_eq (F.name b.0) m y.1,
      )

  -- what a name leads to is the only child of its name
  walk_sole : (d : ℕ) (ns : List Bytes) (j : ℕ) → length ns ≢ 0 → walk F v d ns ≡ found j
      → (e : ℕ) (m : Bytes) → T (is_child F v e m j) → only (children F v e m) ≡ one j
  unfolding walk
  walk_sole d [] j h q e m t = absurd (h refl)
  walk_sole d (n ∷ []) j h q e m t =
      let s = stepped F v d n [] j q in
      let c = s.goes_on in
      let z : s.child ≡ j = cc in
      let k : only (children F v d n) ≡ one j = s.only_child ∙ ap one z in
      let y = one_entry e d m n j t (sole F v d n j k).0 in
      rw (y.0, y.1) k
  walk_sole d (n ∷ o ∷ ns) j h q e m t =
      let s = stepped F v d n (o ∷ ns) j q in
      walk_sole s.child (o ∷ ns) j (λ z. omega arith) s.goes_on e m t

  -- so is what a lookup finds
  pub found_sole : (ns : List Bytes) (j : ℕ) → length ns ≢ 0 → lookup_names F v ns ≡ found j
      → (e : ℕ) (m : Bytes) → T (is_child F v e m j) → only (children F v e m) ≡ one j
  unfolding lookup_names
  found_sole ns j = walk_sole root_id ns j

  -- ---- walks

  -- a walk goes on from what it found
  pub walk_on : (d : ℕ) (ms : List Bytes) (x : ℕ) → walk F v d ms ≡ found x → (ns : List Bytes) → walk F v d (ms ++ ns) ≡ walk F v x ns
  walk_on d ms x q ns = walk_append F v d ms ns ∙ rw q

  -- so does a lookup
  pub lookup_on : (ms : List Bytes) (x : ℕ) → lookup_names F v ms ≡ found x → (ns : List Bytes) → lookup_names F v (ms ++ ns) ≡ walk F v x ns
  unfolding lookup_names
  lookup_on = walk_on root_id

  -- a name that no live child of a directory has leads nowhere
  pub lookup_free : (d : ℕ) (n : Bytes) → is_directory_id d ≡ true → ((j : ℕ) → is_child F v d n j ≡ false)
      → (ns rest : List Bytes) → lookup_names F v ns ≡ found d → lookup_names F v (ns ++ (n ∷ rest)) ≡ absent 9
  unfolding walk
  lookup_free d n dir free ns rest q = lookup_on ns d q (n ∷ rest) ∙ rw (walk, dir, no_child F v d n (λ j t. rw (free j) at t))

-- Two volumes
module _ {A : Type 0} (F : View A) (v w : Volume A) where
  -- at each step of a walk, in the directory that it came to, the next name has the same only child
  abbrev pub SameSteps : ℕ → List Bytes → Type 0
  SameSteps d ns = (ms : List Bytes) (n : Bytes) (rest : List Bytes) (x : ℕ) → ns ≡ ms ++ (n ∷ rest) → walk F v d ms ≡ found x
      → is_directory_id x ≡ true → only (children F w x n) ≡ only (children F v x n)

  -- it is then answered alike
  pub walk_along : (d : ℕ) (ns : List Bytes) → SameSteps d ns → walk F w d ns ≡ walk F v d ns
  unfolding walk
  walk_along d [] h = refl
  walk_along d (n ∷ ns) h = go (is_directory_id d) refl (λ x. walk_along x ns)
    where
      on : is_directory_id d ≡ true → (o : Only ℕ) → only (children F v d n) ≡ o → ((x : ℕ) → SameSteps x ns → walk F w x ns ≡ walk F v x ns)
          → onward true o (λ i. walk F w i ns) ≡ onward true o (λ i. walk F v i ns)
      on e nobody c ih = refl
      on e several c ih = refl
      on e (one x) c ih = ih x (λ ms m rest y s f. h (n ∷ ms) m rest y (ap (λ l. n ∷ l) s) (rw (walk, e, c) f))

      go : (b : Bool) → is_directory_id d ≡ b → ((x : ℕ) → SameSteps x ns → walk F w x ns ≡ walk F v x ns)
          → walk F w d (n ∷ ns) ≡ walk F v d (n ∷ ns)
      go false e ih = rw e
      go true e ih = rw (e, h [] n ns d refl refl e) (on e (only (children F v d n)) refl ih)

  -- so is a lookup
  pub lookup_along : (ns : List Bytes) → SameSteps root_id ns → lookup_names F w ns ≡ lookup_names F v ns
  unfolding lookup_names
  lookup_along = walk_along root_id

  -- w has the only children of v but for those at or below i, and i is no one's child
  module _ (sound : Sound F v) (i : ℕ)
      (stays : (d : ℕ) (n : Bytes) (x : ℕ) → only (children F v d n) ≡ one x → ¬ Memᴰ i (lineage F v x) → only (children F w d n) ≡ one x)
      (goes : (d : ℕ) (n : Bytes) → only (children F v d n) ≡ one i → only (children F w d n) ≡ nobody) where
    -- what is found and not at or below i is found as before
    walk_stays : (d : ℕ) (ns : List Bytes) (j : ℕ) → walk F v d ns ≡ found j → ¬ Memᴰ i (lineage F v j) → walk F w d ns ≡ found j
    walk_stays d ns j q b = walk_along d ns (λ ms n rest x s f dir.
        let t = stepped F v x n rest j (sym (walk_on F v d ms x f (n ∷ rest)) ∙ ap (walk F v d) (sym s) ∙ q) in
        stays x n t.child t.only_child (λ z. b (found_below F v sound i t.child rest j t.goes_on z)) ∙ sym t.only_child) ∙ q

    -- what was found and is at or below i is found no more
    walk_lost : (d : ℕ) (ns : List Bytes) (j : ℕ) → ¬ Memᴰ i (lineage F v d) → walk F v d ns ≡ found j → Memᴰ i (lineage F v j)
        → walk F w d ns ≡ absent 9
    unfolding walk
    walk_lost d [] j b q m = let z : d ≡ j = cc in absurd (b (rw z m))
    walk_lost d (n ∷ ns) j b q m = go (stepped F v d n ns j q) (λ x f. walk_lost x ns j f)
      where
        go : Stepped F v d n ns j
            → ((x : ℕ) → ¬ Memᴰ i (lineage F v x) → walk F v x ns ≡ found j → Memᴰ i (lineage F v j) → walk F w x ns ≡ absent 9)
            → onward (is_directory_id d) (only (children F w d n)) (λ i. walk F w i ns) ≡ absent 9
        go t ih = rw t.directory (on (ℕ_discrete i t.child))
          where
            on : Dec (i ≡ t.child) → onward true (only (children F w d n)) (λ i. walk F w i ns) ≡ absent 9
            on (yes e) = rw (goes d n (t.only_child ∙ ap one (sym e)))
            on (no e) =
                let u = child_outside F v sound i d n t.child t.directory b (sole F v d n t.child t.only_child).0 e in
                rw (stays d n t.child t.only_child u) (ih t.child u t.goes_on m)

    -- both of lookups
    pub lookup_stays : (ns : List Bytes) (j : ℕ) → lookup_names F v ns ≡ found j → ¬ Memᴰ i (lineage F v j) → lookup_names F w ns ≡ found j
    unfolding lookup_names
    lookup_stays = walk_stays root_id

    pub lookup_lost : i ≢ root_id → (ns : List Bytes) (j : ℕ) → lookup_names F v ns ≡ found j → Memᴰ i (lineage F v j)
        → lookup_names F w ns ≡ absent 9
    unfolding lookup_names
    lookup_lost n ns j = walk_lost root_id ns j (root_outside F v i n)
