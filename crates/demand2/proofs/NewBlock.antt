-- A new block in a volume, behind the last one of its file: the file has its old blocks and then this one, and every other file what it had.
use Prim.Native.Nat.{ℕ, zero, suc}
use Rattle.std.proofs.Math.Path.{◌≡◌, refl, ap}
use Rattle.std.proofs.Common.{◌∙◌, arith, eqb→eq, T_not}
use Rattle.std.specs.Prelude.{◌≢◌, false, ◌&&◌, length}
use Rattle.std.proofs.Math.Logic.{⊎_elim}
use Rattle.std.proofs.Math.Bool.{cond, not}
use Rattle.std.proofs.Math.Option.{Option, none, some}
use mathlib.Core.List.Memᴰ
use mathlib.Core.List.{List, [], ◌∷◌, ◌++◌, Memᴰ}
use Rattle.std.proofs.Math.Dec.{T, eqb, eqb_refl, not_T}
use Rattle.volume.specs.Lists.{keep, all, bind, has, only}
use Rattle.volume.specs.View.{View}
use Rattle.volume.specs.Counting.{Volume, block_of, block_ids}
use Rattle.volume.specs.Contents.{chain_start, snoc, owns, owned, unnamed, last_block, chain_back, file_blocks}
use Rattle.volume_laws.specs.Tests.{T→true, and_T, eqb_differ}
use Rattle.volume_laws.specs.Lists.{keep_mem, mem_keep, mem_all, all_cong}
use Rattle.volume_laws.specs.Once.{Alike, nodup_keep, alike_only, alike_all, alike_length}
use Rattle.volume_laws.specs.Counting.{Agree, counting_mem, counting_absent, ids_of_lem}
use Rattle.volume_laws.proofs.Contents.{owns_there, owned_owns, blocks_same}
use Rattle.demand2.specs.Added.{Added, Changed}
use Rattle.demand2.proofs.Added.{split, added_changed}

-- w is v and the new block r, whose id no block of v names
module _ {A : Type 0} (F : View A) (v w : Volume A) (r : A) (a : Added F v.blocks w.blocks r) (ag : Agree F v.blocks)
    (no_id : (s : A) → Memᴰ s v.blocks → F.id s ≢ F.id r) (no_previous : (s : A) → Memᴰ s v.blocks → F.previous s ≢ F.id r) where
  changed : Changed F (block_of F v) (block_of F w) r
  changed = added_changed F v.blocks w.blocks r a ag

  unknown : block_of F v (F.id r) ≡ none
  unknown = counting_absent F v.blocks (F.id r) no_id

  owns_before : (f : ℕ) → owns F (block_of F v) f (F.id r) ≡ false
  unfolding owns
  owns_before f = rw unknown

  owns_other : (f j : ℕ) → j ≢ F.id r → owns F (block_of F w) f j ≡ owns F (block_of F v) f j
  unfolding owns
  owns_other f j n = rw (changed.others j n)

  -- a file that the new block does not belong to keeps its blocks
  pub other_blocks : (f : ℕ) → F.owner r ≢ f → file_blocks F w f ≡ file_blocks F v f
  unfolding owns
  other_blocks f n = blocks_same F v w f
      (split F r (λ j. owns F (block_of F w) f j ≡ owns F (block_of F v) f j) (rw (changed.here, unknown, eqb_differ (F.owner r) f n)) (owns_other f))
      (split F r (λ j. T (owns F (block_of F v) f j) → block_of F w j ≡ block_of F v j) (λ t. absurd (rw unknown at t)) (λ j n t. changed.others j n))

  -- the file that it belongs to, whose last block it names
  module _ (f : ℕ) (owner : F.owner r ≡ f) (other : F.previous r ≢ F.id r) (at_end : last_block F v f ≡ some (F.previous r)) where
    owns_new : T (owns F (block_of F w) f (F.id r))
    unfolding owns
    owns_new = rw (changed.here, owner) (eqb_refl f)

    more : Alike (owned F w f) (F.id r ∷ owned F v f)
    unfolding owned owns
    more = record {
      nodup_l = nodup_keep (owns F (block_of F w) f) (block_ids F w) (ids_of_lem F w.blocks).nodup;
      nodup_m = (
        (λ k. rw (owns_before f) at (owned_owns F v f (F.id r) k)),
        nodup_keep (owns F (block_of F v) f) (block_ids F v) (ids_of_lem F v.blocks).nodup,
      );
      to = λ x k. to x (keep_mem (owns F (block_of F w) f) (block_ids F w) k).1;
      back = λ x k.
          ⊎_elim (λ e. rw e (mem_keep (owns F (block_of F w) f) (block_ids F w) ((ids_of_lem F w.blocks).each (F.id r) r changed.here) owns_new))
          (λ k. back x (keep_mem (owns F (block_of F v) f) (block_ids F v) k).1) (Memᴰ.cases_cons k);
    }
      where
        to : (x : ℕ) → T (owns F (block_of F w) f x) → Memᴰ x (F.id r ∷ keep (owns F (block_of F v) f) (block_ids F v))
        to = split F r (λ x. T (owns F (block_of F w) f x) → Memᴰ x (F.id r ∷ keep (owns F (block_of F v) f) (block_ids F v)))
            (λ t. Memᴰ.head refl)
            (λ x n t. let u : T (owns F (block_of F v) f x) = rw (owns_other f x n) at t in
            Memᴰ.tail (mem_keep (owns F (block_of F v) f) (block_ids F v)
            (owns_there F (block_of F v) (block_ids F v) (ids_of_lem F v.blocks) f x u) u))

        back : (x : ℕ) → T (owns F (block_of F v) f x) → Memᴰ x (keep (owns F (block_of F w) f) (block_ids F w))
        back = split F r (λ x. T (owns F (block_of F v) f x) → Memᴰ x (keep (owns F (block_of F w) f) (block_ids F w)))
            (λ t. absurd (rw (owns_before f) at t))
            (λ x n t. let u : T (owns F (block_of F w) f x) = rw (owns_other f x n) t in
            mem_keep (owns F (block_of F w) f) (block_ids F w) (owns_there F (block_of F w) (block_ids F w) (ids_of_lem F w.blocks) f x u) u)

    -- the old blocks are named as before, and the last of them by the new one
    named : (j : ℕ) → unnamed F (block_of F w) (owned F w f) j ≡ (not (eqb (F.previous r) j) && unnamed F (block_of F v) (owned F v f) j)
    unfolding unnamed all
    named j =
        alike_all (λ x. not (has (λ s. eqb (F.previous s) j) (block_of F w x))) (owned F w f) (F.id r ∷ owned F v f) more
        ∙ rw (changed.here, rest)
      where
        rest : all (λ x. not (has (λ s. eqb (F.previous s) j) (block_of F w x))) (owned F v f)
            ≡ all (λ x. not (has (λ s. eqb (F.previous s) j) (block_of F v x))) (owned F v f)
        rest = all_cong _ _ (owned F v f) (λ x k. rw (changed.others x (λ e. rw (owns_before f) at (rw e at (owned_owns F v f x k)))))

    -- nobody names the new one
    new_unnamed : T (unnamed F (block_of F v) (owned F v f) (F.id r))
    unfolding unnamed
    new_unnamed = mem_all _ (owned F v f) (λ x k. not_T (has (λ s. eqb (F.previous s) (F.id r)) (block_of F v x)) (go x (block_of F v x) refl))
      where
        go : (x : ℕ) (o : Option A) → block_of F v x ≡ o → T (has (λ s. eqb (F.previous s) (F.id r)) o) → ⊥
        go x none e t = t
        go x (some s) e t = no_previous s (counting_mem F v.blocks x s e).0 (eqb→eq _ _ t)

    one_end : (j : ℕ) → Memᴰ j (keep (unnamed F (block_of F v) (owned F v f)) (owned F v f)) → j ≡ F.previous r
    unfolding last_block only
    one_end j k = go (keep (unnamed F (block_of F v) (owned F v f)) (owned F v f)) k at_end
      where
        go : (es : List ℕ) → Memᴰ j es → chain_start (only es) ≡ some (F.previous r) → j ≡ F.previous r
        go [] k e = absurd (Memᴰ.not-nil k)
        go (x ∷ []) k e = let q = Memᴰ.eq_of_singleton k in cc
        go (x ∷ y ∷ es) k e = let z : ◌≡◌ {A = ℕ} 0 1 = cc in absurd (omega arith)

    pub new_last : last_block F w f ≡ some (F.id r)
    unfolding last_block only
    new_last = ap chain_start (alike_only (keep (unnamed F (block_of F w) (owned F w f)) (owned F w f)) (F.id r ∷ []) (record {
      nodup_l = nodup_keep _ (owned F w f) more.nodup_l;
      nodup_m = (Memᴰ.not-nil, tt);
      to = λ x k. let t = keep_mem _ (owned F w f) k in to x (more.to x t.0) (rw (named x) at t.1);
      back = λ x k. rw (Memᴰ.eq_of_singleton k)
          (mem_keep _ (owned F w f) (more.back (F.id r) (Memᴰ.head refl))
          (rw (named (F.id r), eqb_differ (F.previous r) (F.id r) other) new_unnamed));
    }))
      where
        to : (x : ℕ) → Memᴰ x (F.id r ∷ owned F v f) → T (not (eqb (F.previous r) x) && unnamed F (block_of F v) (owned F v f) x)
            → Memᴰ x (F.id r ∷ [])
        to x k t =
            let u = and_T (not (eqb (F.previous r) x)) (unnamed F (block_of F v) (owned F v f) x) t in
            ⊎_elim (λ e. Memᴰ.head e)
            (λ k. absurd (T_not (eqb (F.previous r) x) u.0 (rw (one_end x (mem_keep _ (owned F v f) k u.1)) (eqb_refl (F.previous r)))))
            (Memᴰ.cases_cons k)

    chain_old : (n x : ℕ) → x ≢ F.id r → chain_back F (block_of F w) f n x ≡ chain_back F (block_of F v) f n x
    unfolding chain_back
    chain_old zero x q = refl
    chain_old (suc n) x q = rw (chain_back, owns_other f x q, changed.others x q) (go (block_of F v x) refl (λ y. chain_old n y))
      where
        go : (o : Option A) → block_of F v x ≡ o → ((y : ℕ) → y ≢ F.id r → chain_back F (block_of F w) f n y ≡ chain_back F (block_of F v) f n y)
            → cond (owns F (block_of F v) f x) (bind o (λ s. snoc (chain_back F (block_of F w) f n (F.previous s)) s)) none
            ≡ cond (owns F (block_of F v) f x) (bind o (λ s. snoc (chain_back F (block_of F v) f n (F.previous s)) s)) none
        go none e ih = refl
        go (some s) e ih = rw (ih (F.previous s) (no_previous s (counting_mem F v.blocks x s e).0))

    -- "the file reads as its old contents and then the new data", block by block
    pub new_blocks_lem : (bs : List A) → file_blocks F v f ≡ some bs → file_blocks F w f ≡ some (bs ++ (r ∷ []))
    unfolding file_blocks chain_back
    new_blocks_lem bs e =
        let c : chain_back F (block_of F v) f (length (owned F v f)) (F.previous r) ≡ some bs = rw at_end at e in
        rw (file_blocks, new_last, alike_length _ _ more)
        (rw (
          chain_back,
          T→true {b = owns F (block_of F w) f (F.id r)} owns_new,
          changed.here,
          chain_old (length (owned F v f)) (F.previous r)
              other,
          c,
        ))
