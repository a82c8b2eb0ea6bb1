-- One more record, told by membership: what it makes count, and what it leaves as it was.
use Rattle.std.specs.Prelude.{ℕ, suc, ◌≤◌, ◌≡◌, refl, ◌⊎◌, ◌≢◌, length}
use Rattle.std.proofs.Common.{sym, ap, ◌∙◌, inl, inr, ⊎_elim, arith}
use Rattle.std.proofs.Math.Option.{Option, none, some}
use mathlib.Core.List.Memᴰ
use mathlib.Core.List.{List, ◌∷◌, Memᴰ}
use Rattle.std.proofs.Math.Decide.{ℕ_discrete}
use Rattle.format.specs.Bytes.{Bytes}
use Rattle.volume.specs.View.{View}
use Rattle.volume.specs.Counting.{Volume, counting, ids_of, inode_of}
use Rattle.volume.specs.Fate.{Fate, climb, longest_chain, fate_of}
use Rattle.volume.specs.Tree.{is_child, lookup_names}
use Rattle.volume.specs.Contents.{file_blocks}
use Rattle.volume_laws.specs.Once.{pigeons, Alike}
use Rattle.volume_laws.specs.Counting.{Agree, counting_mem, counting_none, counting_absent, counting_is, counting_sub, counting_retained, ids_of_lem}
use Rattle.volume_laws.specs.Counting.{ids_mem, mem_ids, fewer_ids}
use Rattle.volume_laws.specs.Climb.{closed_climb}
use Rattle.volume_laws.specs.Tree.{lookup_same}
use Rattle.volume_laws.proofs.Contents.{blocks_retained}
use Rattle.demand2.specs.Added.{Same, Added, Changed}

module _ {A : Type 0} (F : View A) where
  -- what is told of the id of r and of every other is told of all
  pub split : (r : A) (Q : ℕ → Type 0) → Q (F.id r) → ((j : ℕ) → j ≢ F.id r → Q j) → (j : ℕ) → Q j
  split r Q a b j = go (ℕ_discrete j (F.id r))
    where
      go : Dec (j ≡ F.id r) → Q j
      go (yes e) = rw e a
      go (no e) = b j e

  -- an inode that keeps its record and its fate is the child that it was
  pub child_same : (v w : Volume A) (d : ℕ) (n : Bytes) (j : ℕ) → inode_of F w j ≡ inode_of F v j → fate_of F w j ≡ fate_of F v j
      → is_child F w d n j ≡ is_child F v d n j
  unfolding is_child
  child_same v w d n j e f = rw (is_child, e, f)

  module _ (rs ss : List A) (r : A) (w : Added F rs ss r) (ag : Agree F rs) where
    -- check 6 still passes
    pub added_agree : Agree F ss
    added_agree s t m n p q = go (w.only s m) (w.only t n)
      where
        go : (s ≡ r) ⊎ Memᴰ s rs → (t ≡ r) ⊎ Memᴰ t rs → s ≡ t
        go (inl a) (inl b) = a ∙ sym b
        go (inl a) (inr b) = let h = w.newer t b (sym p ∙ ap F.id a) in absurd (omega (arith, q, ap F.sequence a))
        go (inr a) (inl b) = let h = w.newer s a (p ∙ ap F.id b) in absurd (omega (arith, q, ap F.sequence b))
        go (inr a) (inr b) = ag s t a b p q

    pub added_changed : Changed F (counting F rs) (counting F ss) r
    added_changed = record {
      here = counting_is F ss r w.new (λ s m e. ⊎_elim inl (λ n. inr (w.newer s n e)) (w.only s m));
      others = λ j n. go j n (counting F ss j) refl;
    }
      where
        go : (j : ℕ) → j ≢ F.id r → (o : Option A) → counting F ss j ≡ o → counting F ss j ≡ counting F rs j
        go j n none e = e ∙ sym (counting_absent F rs j (λ s m. counting_none F ss j e s (w.old s m)))
        go j n (some s) e =
            let m = counting_mem F ss j s e in
            e ∙ sym (⊎_elim (λ q. absurd (n (sym m.1 ∙ ap F.id q))) (λ k. counting_sub F ss rs added_agree w.old j s e k) (w.only s m.0))

    -- at most one id more
    pub added_ids : length (ids_of F ss) ≤ suc (length (ids_of F rs))
    added_ids = pigeons (ids_of F ss) (F.id r ∷ ids_of F rs) (ids_of_lem F ss).nodup (λ x m. go x (ids_mem F ss x m))
      where
        go : (x : ℕ) → (s : A) × Memᴰ s ss × (F.id s ≡ x) → Memᴰ x (F.id r ∷ ids_of F rs)
        go x t = ⊎_elim (λ q. Memᴰ.head (sym t.2 ∙ ap F.id q)) (λ k. Memᴰ.tail (Memᴰ.cast (sym t.2) (mem_ids F rs t.0 k)))
            (w.only t.0 t.1)

    -- the same ones where the id was there
    pub known_ids : Memᴰ (F.id r) (ids_of F rs) → Alike (ids_of F ss) (ids_of F rs)
    known_ids there = record {
      nodup_l = (ids_of_lem F ss).nodup;
      nodup_m = (ids_of_lem F rs).nodup;
      to = λ x m. go x (ids_mem F ss x m);
      back = λ x m. let t = ids_mem F rs x m in Memᴰ.cast (sym t.2) (mem_ids F ss t.0 (w.old t.0 t.1));
    }
      where
        go : (x : ℕ) → (s : A) × Memᴰ s ss × (F.id s ≡ x) → Memᴰ x (ids_of F rs)
        go x t = ⊎_elim (λ q. Memᴰ.cast (sym t.2 ∙ ap F.id q) there) (λ k. Memᴰ.cast (sym t.2) (mem_ids F rs t.0 k))
            (w.only t.0 t.1)

  -- The same records make the same count
  module _ (rs ss : List A) (s : Same rs ss) (ag : Agree F rs) where
    pub same_counting : (i : ℕ) → counting F ss i ≡ counting F rs i
    same_counting i = counting_retained F rs ss ag s.back i (λ r m e. s.to r m)

    pub same_count : length (ids_of F ss) ≡ length (ids_of F rs)
    same_count = omega (arith, fewer_ids F rs ss s.back, fewer_ids F ss rs s.to)

  -- and the same of all that turns on inodes
  module _ (v w : Volume A) (s : Same v.inodes w.inodes) (ag : Agree F v.inodes) where
    pub same_inode : (i : ℕ) → inode_of F w i ≡ inode_of F v i
    same_inode = same_counting v.inodes w.inodes s ag

    same_climb : {X : Type 0} (stop : Fate → X) (on : A → X → X) (i : ℕ)
        → climb F stop on (inode_of F w) (longest_chain F w) i ≡ climb F stop on (inode_of F v) (longest_chain F v) i
    same_climb stop on i =
        ap (λ k. climb F stop on (inode_of F w) k i) (same_count v.inodes w.inodes s ag)
        ∙ closed_climb F stop on (inode_of F v) (inode_of F w) (λ j r a e. same_inode (F.parent r)) (longest_chain F v) i (same_inode i)

    pub same_fate : (i : ℕ) → fate_of F w i ≡ fate_of F v i
    unfolding fate_of
    same_fate = same_climb (λ f. f) (λ r f. f)

    pub same_lookup : (ns : List Bytes) → lookup_names F w ns ≡ lookup_names F v ns
    same_lookup = lookup_same F v w (λ d n i. child_same v w d n i (same_inode i) (same_fate i))

  -- and on blocks
  module _ (v w : Volume A) (s : Same v.blocks w.blocks) (ag : Agree F v.blocks) where
    pub same_contents : (f : ℕ) → file_blocks F w f ≡ file_blocks F v f
    same_contents f = blocks_retained F v w ag s.back f (λ r m e t n q. s.to t n)
