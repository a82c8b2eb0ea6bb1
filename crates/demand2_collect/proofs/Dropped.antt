-- Records left out of a volume: where each id keeps its counting record, or was dead and has none, all that can be reached is as it was.
use Rattle.std.specs.Prelude.{ℕ, ◌≡◌, ◌⊎◌, ◌≢◌, Bool, true, false, T, eqb}
use Rattle.std.proofs.Math.Path.{refl, sym}
use Rattle.std.proofs.Common.{ap, ◌∙◌, inl, inr, arith, eqb→eq}
use Rattle.std.proofs.Math.Logic.{⊎_elim}
use Rattle.std.proofs.Math.Bool.{and-false}
use Rattle.std.proofs.Math.Option.{Option, none, some}
use mathlib.Core.List.{List, Memᴰ}
use Rattle.format.specs.Bytes.{Bytes}
use Rattle.volume.specs.Lists.{has}
use Rattle.volume.specs.View.{View}
use Rattle.volume.specs.Counting.{Volume, inode_of, block_of}
use Rattle.volume.specs.Fate.{live, dead, orphan, ascend, longest_chain, fate_of}
use Rattle.volume.specs.Tree.{is_entry, is_child, lookup_names}
use Rattle.volume.specs.Contents.{owns, file_blocks}
use Rattle.volume_laws.specs.Tests.{true→T}
use Rattle.volume_laws.specs.Counting.{counting_mem, fewer_ids}
use Rattle.volume_laws.specs.Climb.{closed_climb, fate_within_lem, fate_own, live_not_dead, live_no_orphan}
use Rattle.volume_laws.specs.Tree.{lookup_same}
use Rattle.volume_laws.proofs.Contents.{blocks_same}
use Rattle.demand2_collect.specs.Dropped.{InodeDropped, BlockDropped, LeftOut}

module _ {A : Type 0} (F : View A) where
  module _ (v w : Volume A) (h : LeftOut F v w) where
    abbrev c : ℕ → Option A
    c = inode_of F v

    abbrev d : ℕ → Option A
    d = inode_of F w

    -- a parent is not left out where the child is not
    closed : (j : ℕ) (r : A) → d j ≡ c j → c j ≡ some r → d (F.parent r) ≡ c (F.parent r)
    closed j r p e = ⊎_elim (λ q. q) (λ x. absurd (no_way x)) (h.each_inode (F.parent r))
      where
        m : Memᴰ r v.inodes × (F.id r ≡ j)
        m = counting_mem F v.inodes j r e

        no_way : InodeDropped F v w (F.parent r) → ⊥
        no_way x =
            let u : j ≡ F.parent r = sym m.1 ∙ x.unnamed r m.0 refl in
            let n : d j ≡ none = rw u x.none_left in
            let y : ◌≡◌ {A = Option A} none (some r) = sym n ∙ p ∙ e in
            let z : ◌≡◌ {A = ℕ} 0 1 = cc in
            omega arith

    -- what keeps its counting record keeps its fate
    pub kept_fate : (i : ℕ) → d i ≡ c i → fate_of F w i ≡ fate_of F v i
    unfolding fate_of
    kept_fate i q =
        sym (fate_within_lem F w (longest_chain F v) i (fewer_ids F v.inodes w.inodes h.fewer))
        ∙ closed_climb F (λ f. f) (λ r f. f) c d closed (longest_chain F v) i q

    -- a dropped inode is unknown
    dropped_fate : (i : ℕ) → d i ≡ none → fate_of F w i ≡ orphan
    unfolding ascend
    dropped_fate i q = fate_own F w i orphan (rw (q, ascend))

    -- every inode that was not dead keeps its record and its fate
    pub kept_inode : (i : ℕ) → fate_of F v i ≢ dead → inode_of F w i ≡ inode_of F v i
    kept_inode i n = ⊎_elim (λ q. q) (λ x. absurd (n x.died)) (h.each_inode i)

    pub stays_live : (i : ℕ) → fate_of F v i ≡ live → fate_of F w i ≡ live
    stays_live i e = kept_fate i (kept_inode i (λ q. live_not_dead (sym e ∙ q))) ∙ e

    -- nothing comes back
    pub no_new_life : (i : ℕ) → fate_of F w i ≡ live → fate_of F v i ≡ live
    no_new_life i e = ⊎_elim (λ q. sym (kept_fate i q) ∙ e) (λ x. absurd (live_no_orphan (sym e ∙ dropped_fate i x.none_left))) (h.each_inode i)

    -- the same live children
    same_child : (e : ℕ) (n : Bytes) (i : ℕ) → is_child F w e n i ≡ is_child F v e n i
    unfolding is_child
    same_child e n i = go (h.each_inode i)
      where
        go : (d i ≡ c i) ⊎ InodeDropped F v w i → is_child F w e n i ≡ is_child F v e n i
        go (inl q) = rw (is_child, q, kept_fate i q)
        go (inr x) = rw (is_child, x.none_left, x.died) (sym (and-false (has (is_entry F e n) (c i))))

    pub same_lookups : (ns : List Bytes) → lookup_names F w ns ≡ lookup_names F v ns
    same_lookups = lookup_same F v w same_child

    -- a file that was not dead has the blocks that it had
    module _ (f : ℕ) (n : fate_of F v f ≢ dead) where
      not_owned : (i : ℕ) → BlockDropped F v w i → (o : Option A) → block_of F v i ≡ o → has (λ r. eqb (F.owner r) f) o ≡ false
      not_owned i x none q = refl
      not_owned i x (some r) q = go (eqb (F.owner r) f) refl
        where
          go : (b : Bool) → eqb (F.owner r) f ≡ b → eqb (F.owner r) f ≡ false
          go true e = absurd (n (ap (fate_of F v) (sym (eqb→eq (F.owner r) f (true→T e))) ∙ x.died r q))
          go false e = e

      same_owns : (i : ℕ) → (owns F (block_of F w) f i ≡ owns F (block_of F v) f i) × (T (owns F (block_of F v) f i) → block_of F w i ≡ block_of F v i)
      unfolding owns
      same_owns i = ⊎_elim (λ q. (rw q, λ t. q))
          (λ x. let y = not_owned i x (block_of F v i) refl in (rw (x.none_left, y), λ t. absurd (rw y at t))) (h.each_block i)

      pub kept_contents : file_blocks F w f ≡ file_blocks F v f
      kept_contents = blocks_same F v w f (λ i. (same_owns i).0) (λ i. (same_owns i).1)
