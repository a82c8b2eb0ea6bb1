-- Chains of parents: what is gathered along them, how long they are, and what a change of records does to them.
use Rattle.std.proofs.Math.Path.{◌≡◌, refl, sym, ap}
use Rattle.std.proofs.Common.{◌∙◌, inr, ⊎_elim, arith}
use Rattle.std.specs.Prelude.{◌⊎◌, ◌≢◌, Bool, cond, length, T}
use Rattle.std.proofs.Math.Logic.{inl}
use Rattle.std.proofs.Math.Bool.{true, false}
use Rattle.std.proofs.Math.Option.{Option, none, some}
use mathlib.Core.List.Memᴰ
use mathlib.Core.List.{List, [], ◌∷◌, Memᴰ}
use Prim.Native.Nat.{ℕ, zero, suc, ◌≤◌}
use Rattle.std.proofs.Math.Dec.{eqb, eqb→eq}
use Rattle.format.specs.Ids.{NONE, root_id}
use Rattle.volume.specs.View.{View}
use Rattle.volume.specs.Counting.{Volume, inode_of, inode_ids}
use Rattle.volume.specs.Fate.{Fate, live, dead, orphan, is_live, ascend, climb, fate_within, longest_chain, fate_of, lineage}
use Rattle.volume_laws.specs.Tests.{true→T, eqb_false}
use Rattle.volume_laws.specs.Once.{Nodup, pigeons}
use Rattle.volume_laws.specs.Counting.{Ids, ids_of_lem, counting_mem}

-- the three fates differ
pub live_no_orphan : live ≢ orphan
live_no_orphan e = let z : ◌≡◌ {A = ℕ} 0 1 = cc in omega arith

pub live_not_dead : live ≢ dead
live_not_dead e = let z : ◌≡◌ {A = ℕ} 0 1 = cc in omega arith

pub dead_no_orphan : dead ≢ orphan
dead_no_orphan e = let z : ◌≡◌ {A = ℕ} 0 1 = cc in omega arith

pub fate_discrete : (f g : Fate) → Dec (f ≡ g)
fate_discrete live live = yes refl
fate_discrete live dead = no live_not_dead
fate_discrete live orphan = no live_no_orphan
fate_discrete dead live = no (λ e. live_not_dead (sym e))
fate_discrete dead dead = yes refl
fate_discrete dead orphan = no dead_no_orphan
fate_discrete orphan live = no (λ e. live_no_orphan (sym e))
fate_discrete orphan dead = no (λ e. dead_no_orphan (sym e))
fate_discrete orphan orphan = yes refl

-- the test for live
pub is_live_lem : (f : Fate) → T (is_live f) → f ≡ live
is_live_lem live t = refl
is_live_lem dead t = absurd t
is_live_lem orphan t = absurd t

module _ {A : Type 0} (F : View A) where
  -- where the chain ends, and where it goes on
  pub climb_stop : {X : Type 0} (stop : Fate → X) (on : A → X → X) (c : ℕ → Option A) (k i : ℕ) (f : Fate)
      → ascend F (c i) ≡ inl f → climb F stop on c (suc k) i ≡ stop f
  unfolding climb
  climb_stop stop on c k i f e = rw (climb, e)

  pub climb_on : {X : Type 0} (stop : Fate → X) (on : A → X → X) (c : ℕ → Option A) (k i : ℕ) (r : A)
      → ascend F (c i) ≡ inr r → climb F stop on c (suc k) i ≡ on r (climb F stop on c k (F.parent r))
  unfolding climb
  climb_on stop on c k i r e = rw (climb, e)

  pub fate_stop : (c : ℕ → Option A) (k i : ℕ) (f : Fate) → ascend F (c i) ≡ inl f → fate_within F c (suc k) i ≡ f
  fate_stop = climb_stop (λ f. f) (λ r f. f)

  pub fate_on : (c : ℕ → Option A) (k i : ℕ) (r : A) → ascend F (c i) ≡ inr r → fate_within F c (suc k) i ≡ fate_within F c k (F.parent r)
  fate_on = climb_on (λ f. f) (λ r f. f)

  -- it ends live at the root
  pub ascend_live : (o : Option A) → ascend F o ≡ inl live → (r : A) × (o ≡ some r) × (F.id r ≡ root_id)
  unfolding ascend
  ascend_live none e = let z : ◌≡◌ {A = ℕ} 0 1 = cc in absurd (omega arith)
  ascend_live (some r) e = (r, refl, go (eqb (F.id r) root_id) refl (eqb (F.parent r) NONE) e)
    where
      go : (a : Bool) → eqb (F.id r) root_id ≡ a → (b : Bool)
          → ◌≡◌ {A = Fate ⊎ A} (cond a (inl live) (cond b (inl dead) (inr r))) (inl live) → F.id r ≡ root_id
      go true p b q = eqb→eq (F.id r) root_id (true→T p)
      go false p true q = let z : ◌≡◌ {A = ℕ} 0 1 = cc in absurd (omega arith)
      go false p false q = let z : ◌≡◌ {A = ℕ} 0 1 = cc in absurd (omega arith)

  -- it goes on above an inode that is not the root and no deletion record
  pub ascend_on : (o : Option A) (s : A) → ascend F o ≡ inr s → (o ≡ some s) × (F.id s ≢ root_id) × (F.parent s ≢ NONE)
  unfolding ascend
  ascend_on none s e = let z : ◌≡◌ {A = ℕ} 0 1 = cc in absurd (omega arith)
  ascend_on (some r) s e = go (eqb (F.id r) root_id) refl (eqb (F.parent r) NONE) refl e
    where
      go : (a : Bool) → eqb (F.id r) root_id ≡ a → (b : Bool) → eqb (F.parent r) NONE ≡ b
          → ◌≡◌ {A = Fate ⊎ A} (cond a (inl live) (cond b (inl dead) (inr r))) (inr s)
          → (some r ≡ some s) × (F.id s ≢ root_id) × (F.parent s ≢ NONE)
      go true p b q z = let z : ◌≡◌ {A = ℕ} 0 1 = cc in absurd (omega arith)
      go false p true q z = let z : ◌≡◌ {A = ℕ} 0 1 = cc in absurd (omega arith)
      go false p false q z =
          let w : r ≡ s = cc in
          (ap some w, (λ n. eqb_false (F.id r) root_id p (ap F.id w ∙ n)), λ n. eqb_false (F.parent r) NONE q (ap F.parent w ∙ n))

  -- an id where the chain does not end as an orphan has a record
  pub ascend_some : (o : Option A) (s : Fate ⊎ A) → ascend F o ≡ s → s ≢ inl orphan → (r : A) × (o ≡ some r)
  unfolding ascend
  ascend_some none s q n = absurd (n (sym q))
  ascend_some (some r) s q n = (r, refl)

  -- the ids of a chain, as `lineage` gathers them
  abbrev pub chain_within : (ℕ → Option A) → ℕ → ℕ → List ℕ
  chain_within c k i = i ∷ climb F (λ f. []) (λ r l. F.parent r ∷ l) c k i

  -- What is gathered turns only on the inodes that count along the chain
  pub climb_same : {X : Type 0} (stop : Fate → X) (on : A → X → X) (c d : ℕ → Option A) (k i : ℕ)
      → ((j : ℕ) → Memᴰ j (chain_within c k i) → d j ≡ c j) → climb F stop on d k i ≡ climb F stop on c k i
  unfolding climb
  climb_same stop on c d zero i h = refl
  climb_same {X} stop on c d (suc k) i h = go (ascend F (c i)) refl (λ r. climb_same stop on c d k (F.parent r))
    where
      go : (s : Fate ⊎ A) → ascend F (c i) ≡ s
          → ((r : A) → ((m : ℕ) → Memᴰ m (chain_within c k (F.parent r)) → d m ≡ c m)
          → climb F stop on d k (F.parent r) ≡ climb F stop on c k (F.parent r))
          → climb F stop on d (suc k) i ≡ climb F stop on c (suc k) i
      go (inl f) e ih = rw (climb, h i (Memᴰ.head refl), e) refl
      go (inr r) e ih = rw (climb, h i (Memᴰ.head refl), e) (ap (on r) (ih r (λ m n. h m (rw (e, climb) (Memᴰ.tail n)))))

  -- one thing gathered is a function of another if it is so at each step
  pub climb_through : {X Y : Type 0} (h : X → Y) (stop : Fate → X) (on : A → X → X) (stop' : Fate → Y) (on' : A → Y → Y)
      → ((f : Fate) → h (stop f) ≡ stop' f) → ((r : A) (x : X) → h (on r x) ≡ on' r (h x))
      → (c : ℕ → Option A) (k i : ℕ) → h (climb F stop on c k i) ≡ climb F stop' on' c k i
  unfolding climb
  climb_through h stop on stop' on' s o c zero i = s orphan
  climb_through h stop on stop' on' s o c (suc k) i = go (ascend F (c i)) refl (climb_through h stop on stop' on' s o c k)
    where
      go : (x : Fate ⊎ A) → ascend F (c i) ≡ x → ((j : ℕ) → h (climb F stop on c k j) ≡ climb F stop' on' c k j)
          → h (climb F stop on c (suc k) i) ≡ climb F stop' on' c (suc k) i
      go (inl f) e ih = rw (climb, e) (s f)
      go (inr r) e ih = rw (climb, e) (o r _ ∙ ap (on' r) (ih (F.parent r)))

  -- and is the same in a part of the tree that is closed upwards and the same in both
  pub closed_climb : {X : Type 0} (stop : Fate → X) (on : A → X → X) (c d : ℕ → Option A)
      → ((j : ℕ) (r : A) → d j ≡ c j → c j ≡ some r → d (F.parent r) ≡ c (F.parent r))
      → (k i : ℕ) → d i ≡ c i → climb F stop on d k i ≡ climb F stop on c k i
  unfolding climb
  closed_climb stop on c d h zero i q = refl
  closed_climb stop on c d h (suc k) i q = go (ascend F (c i)) refl (λ r. closed_climb stop on c d h k (F.parent r))
    where
      go : (s : Fate ⊎ A) → ascend F (c i) ≡ s
          → ((r : A) → d (F.parent r) ≡ c (F.parent r) → climb F stop on d k (F.parent r) ≡ climb F stop on c k (F.parent r))
          → climb F stop on d (suc k) i ≡ climb F stop on c (suc k) i
      go (inl f) e ih = rw (climb, q, e)
      go (inr r) e ih = rw (climb, q, e) (ap (on r) (ih r (h i r q (ascend_on (c i) r e).0)))

  -- the chain ends here, and not at the root
  pub record Halts (o : Option A) : Type 0 where
    pub how : Fate
    pub stops : ascend F o ≡ inl how
    pub unlive : how ≢ live

  pub none_halts : {o : Option A} → o ≡ none → Halts o
  unfolding ascend
  none_halts e = record { how = orphan; stops = rw (e, ascend); unlive = λ q. live_no_orphan (sym q) }

  -- Nothing comes to life where each counting inode is an old one or ends the chain
  pub no_new_life : (c d : ℕ → Option A) → ((j : ℕ) → (d j ≡ c j) ⊎ Halts (d j))
      → (k i : ℕ) → fate_within F d k i ≡ live → fate_within F c k i ≡ live
  unfolding climb
  no_new_life c d h zero i e = e
  no_new_life c d h (suc k) i e = go (h i) (ascend F (d i)) refl (λ r. no_new_life c d h k (F.parent r))
    where
      go : (d i ≡ c i) ⊎ Halts (d i) → (s : Fate ⊎ A) → ascend F (d i) ≡ s
          → ((r : A) → fate_within F d k (F.parent r) ≡ live → fate_within F c k (F.parent r) ≡ live) → fate_within F c (suc k) i ≡ live
      go (inr x) s q ih = absurd (x.unlive (sym (fate_stop d k i x.how x.stops) ∙ e))
      go (inl p) (inl f) q ih = fate_stop c k i f (rw p at q) ∙ sym (fate_stop d k i f q) ∙ e
      go (inl p) (inr r) q ih = fate_on c k i r (rw p at q) ∙ ih r (sym (fate_on d k i r q) ∙ e)

  -- How long a chain can be that ends live or dead
  module _ (c : ℕ → Option A) (f : Fate) (ends : f ≢ orphan) where
    not_zero : (i : ℕ) → fate_within F c 0 i ≢ f
    unfolding climb
    not_zero i e = ends (sym e)

    -- once it has ended, more steps change nothing of its fate
    pub fate_more : (k n i : ℕ) → k ≤ n → fate_within F c k i ≡ f → fate_within F c n i ≡ f
    fate_more zero n i h e = absurd (not_zero i e)
    fate_more (suc k) zero i h e = absurd (omega arith)
    fate_more (suc k) (suc n) i h e = go (ascend F (c i)) refl (λ r. fate_more k n (F.parent r) (omega arith))
      where
        go : (s : Fate ⊎ A) → ascend F (c i) ≡ s → ((r : A) → fate_within F c k (F.parent r) ≡ f → fate_within F c n (F.parent r) ≡ f)
            → fate_within F c (suc n) i ≡ f
        go (inl g) q ih = fate_stop c n i g q ∙ sym (fate_stop c k i g q) ∙ e
        go (inr r) q ih = fate_on c n i r q ∙ ih r (sym (fate_on c k i r q) ∙ e)

    -- nor of what is gathered along it
    pub climb_more : {X : Type 0} (stop : Fate → X) (on : A → X → X) (k n i : ℕ) → k ≤ n → fate_within F c k i ≡ f
        → climb F stop on c n i ≡ climb F stop on c k i
    climb_more stop on zero n i h e = absurd (not_zero i e)
    climb_more stop on (suc k) zero i h e = absurd (omega arith)
    climb_more stop on (suc k) (suc n) i h e = go (ascend F (c i)) refl (λ r. climb_more stop on k n (F.parent r) (omega arith))
      where
        go : (s : Fate ⊎ A) → ascend F (c i) ≡ s
            → ((r : A) → fate_within F c k (F.parent r) ≡ f → climb F stop on c n (F.parent r) ≡ climb F stop on c k (F.parent r))
            → climb F stop on c (suc n) i ≡ climb F stop on c (suc k) i
        go (inl g) q ih = climb_stop stop on c n i g q ∙ sym (climb_stop stop on c k i g q)
        go (inr r) q ih = climb_on stop on c n i r q ∙ ap (on r) (ih r (sym (fate_on c k i r q) ∙ e)) ∙ sym (climb_on stop on c k i r q)

    -- a chain for which k steps just suffice: its ids, each once
    record Line (k i : ℕ) : Type 0 where
      pub line : List ℕ
      pub nodup : Nodup line
      pub long : length line ≡ k
      pub fates : (x : ℕ) → Memᴰ x line → fate_within F c k x ≡ f
      pub there : (x : ℕ) → Memᴰ x line → (r : A) × (c x ≡ some r)

    stops_some : (i : ℕ) (g : Fate) → ascend F (c i) ≡ inl g → g ≡ f → (r : A) × (c i ≡ some r)
    stops_some i g q p = ascend_some (c i) (inl g) q (λ z. let w : g ≡ orphan = cc in ends (sym p ∙ w))

    just_enough : (k i : ℕ) → fate_within F c (suc k) i ≡ f → fate_within F c k i ≢ f → Line (suc k) i
    just_enough zero i e n = go (ascend F (c i)) refl
      where
        go : (s : Fate ⊎ A) → ascend F (c i) ≡ s → Line 1 i
        go (inl g) q = record {
          line = i ∷ [];
          nodup = (Memᴰ.not-nil, tt);
          long = refl;
          fates = λ x m. rw (Memᴰ.eq_of_singleton m) e;
          there = λ x m. rw (Memᴰ.eq_of_singleton m) (stops_some i g q (sym (fate_stop c 0 i g q) ∙ e));
        }
        go (inr r) q = absurd (not_zero (F.parent r) (sym (fate_on c 0 i r q) ∙ e))
    just_enough (suc k) i e n = go (ascend F (c i)) refl (λ r. just_enough k (F.parent r))
      where
        add : (r : A) → ascend F (c i) ≡ inr r → Line (suc k) (F.parent r) → Line (suc (suc k)) i
        add r q l = record {
          line = i ∷ l.line;
          nodup = ((λ m. n (l.fates i m)), l.nodup);
          long = omega (arith, l.long);
          fates = λ x m. ⊎_elim (λ z. rw z e) (λ m. fate_more (suc k) (suc (suc k)) x (omega arith) (l.fates x m)) (Memᴰ.cases_cons m);
          there = λ x m. ⊎_elim (λ z. rw z (r, (ascend_on (c i) r q).0)) (l.there x) (Memᴰ.cases_cons m);
        }

        go : (s : Fate ⊎ A) → ascend F (c i) ≡ s
            → ((r : A) → fate_within F c (suc k) (F.parent r) ≡ f → fate_within F c k (F.parent r) ≢ f → Line (suc k) (F.parent r))
            → Line (suc (suc k)) i
        go (inl g) q ih = absurd (n (fate_stop c k i g q ∙ sym (fate_stop c (suc k) i g q) ∙ e))
        go (inr r) q ih = add r q (ih r (sym (fate_on c (suc k) i r q) ∙ e) (λ z. n (fate_on c k i r q ∙ z)))

    -- A chain that ends does so within as many steps as there are ids
    pub enough : (l : List ℕ) → Ids F c l → (n : ℕ) → length l ≤ n → (k i : ℕ) → fate_within F c k i ≡ f → fate_within F c n i ≡ f
    enough l ids n h zero i e = absurd (not_zero i e)
    enough l ids n h (suc k) i e = go (fate_discrete (fate_within F c k i) f) (enough l ids n h k i)
      where
        fit : Line (suc k) i → fate_within F c n i ≡ f
        fit t =
            let p = pigeons t.line l t.nodup (λ x m. let r = t.there x m in ids.each x r.0 r.1) in
            fate_more (suc k) n i (omega (arith, t.long)) e

        go : Dec (fate_within F c k i ≡ f) → (fate_within F c k i ≡ f → fate_within F c n i ≡ f) → fate_within F c n i ≡ f
        go (yes q) ih = ih q
        go (no q) ih = fit (just_enough k i e q)

  -- So any number of steps from the number of ids on tells the fate
  pub fate_settled : (c : ℕ → Option A) (l : List ℕ) → Ids F c l → (k n i : ℕ) → length l ≤ k → length l ≤ n
      → fate_within F c n i ≡ fate_within F c k i
  fate_settled c l ids k n i hk hn = go (fate_within F c k i) refl (fate_within F c n i) refl
    where
      go : (f : Fate) → fate_within F c k i ≡ f → (g : Fate) → fate_within F c n i ≡ g → fate_within F c n i ≡ fate_within F c k i
      go live p g q = enough c live live_no_orphan l ids n hn k i p ∙ sym p
      go dead p g q = enough c dead dead_no_orphan l ids n hn k i p ∙ sym p
      go orphan p live q = q ∙ sym (enough c live live_no_orphan l ids k hk n i q)
      go orphan p dead q = q ∙ sym (enough c dead dead_no_orphan l ids k hk n i q)
      go orphan p orphan q = q ∙ sym p

  -- of a volume
  pub fate_within_lem : (v : Volume A) (n i : ℕ) → longest_chain F v ≤ n → fate_within F (inode_of F v) n i ≡ fate_of F v i
  unfolding fate_of
  fate_within_lem v n i h = fate_settled (inode_of F v) (inode_ids F v) (ids_of_lem F v.inodes) (longest_chain F v) n i (omega arith) h

  -- so the fate of an inode is that of its parent, unless its own record decides
  pub fate_own : (v : Volume A) (i : ℕ) (f : Fate) → ascend F (inode_of F v i) ≡ inl f → fate_of F v i ≡ f
  fate_own v i f q = sym (fate_within_lem v (suc (longest_chain F v)) i (omega arith)) ∙ fate_stop (inode_of F v) (longest_chain F v) i f q

  pub fate_parent : (v : Volume A) (i : ℕ) (r : A) → ascend F (inode_of F v i) ≡ inr r → fate_of F v i ≡ fate_of F v (F.parent r)
  unfolding fate_of
  fate_parent v i r q = sym (fate_within_lem v (suc (longest_chain F v)) i (omega arith)) ∙ fate_on (inode_of F v) (longest_chain F v) i r q

  -- and any number of steps from there on gathers the same from a live inode
  pub live_within : {X : Type 0} (stop : Fate → X) (on : A → X → X) (v : Volume A) (n i : ℕ) → longest_chain F v ≤ n → fate_of F v i ≡ live
      → climb F stop on (inode_of F v) n i ≡ climb F stop on (inode_of F v) (longest_chain F v) i
  unfolding fate_of
  live_within stop on v n i h e = climb_more (inode_of F v) live live_no_orphan stop on (longest_chain F v) n i h e

  -- a live inode has a record
  pub live_some : (v : Volume A) (i : ℕ) → fate_of F v i ≡ live → (r : A) × (inode_of F v i ≡ some r)
  unfolding fate_of
  live_some v i e = go (longest_chain F v) e
    where
      go : (k : ℕ) → fate_within F (inode_of F v) k i ≡ live → (r : A) × (inode_of F v i ≡ some r)
      go zero e = absurd (not_zero (inode_of F v) live live_no_orphan i e)
      go (suc k) e = at (ascend F (inode_of F v i)) refl
        where
          at : (s : Fate ⊎ A) → ascend F (inode_of F v i) ≡ s → (r : A) × (inode_of F v i ≡ some r)
          at (inl f) q = stops_some (inode_of F v) live live_no_orphan i f q (sym (fate_stop (inode_of F v) k i f q) ∙ e)
          at (inr r) q = (r, (ascend_on (inode_of F v i) r q).0)

  -- the root is an ancestor of every live inode
  pub root_ancestor : (v : Volume A) (i : ℕ) → fate_of F v i ≡ live → Memᴰ root_id (lineage F v i)
  unfolding fate_of lineage
  root_ancestor v i e = go (longest_chain F v) i e
    where
      top : (i : ℕ) → ascend F (inode_of F v i) ≡ inl live → root_id ≡ i
      top i q = let r = ascend_live (inode_of F v i) q in sym r.2 ∙ (counting_mem F v.inodes i r.0 r.1).1

      go : (k i : ℕ) → fate_within F (inode_of F v) k i ≡ live → Memᴰ root_id (chain_within (inode_of F v) k i)
      go zero i e = absurd (not_zero (inode_of F v) live live_no_orphan i e)
      go (suc k) i e = at (ascend F (inode_of F v i)) refl (λ j. go k j)
        where
          at : (s : Fate ⊎ A) → ascend F (inode_of F v i) ≡ s
              → ((j : ℕ) → fate_within F (inode_of F v) k j ≡ live → Memᴰ root_id (chain_within (inode_of F v) k j))
              → Memᴰ root_id (chain_within (inode_of F v) (suc k) i)
          at (inl f) q ih = Memᴰ.head (top i (q ∙ ap inl (sym (fate_stop (inode_of F v) k i f q) ∙ e)))
          at (inr r) q ih =
              let l : chain_within (inode_of F v) (suc k) i ≡ i ∷ chain_within (inode_of F v) k (F.parent r)
              = ap (λ l. i ∷ l) (climb_on (λ f. []) (λ r l. F.parent r ∷ l) (inode_of F v) k i r q) in
              rw l (Memᴰ.tail (ih (F.parent r) (sym (fate_on (inode_of F v) k i r q) ∙ e)))
