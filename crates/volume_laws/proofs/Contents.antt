-- The blocks of a file: they turn only on the blocks that count and name it as owner.
use Rattle.std.specs.Prelude.{◌≡◌, Bool, length}
use Rattle.std.proofs.Math.Path.{refl, sym, ap}
use Rattle.std.proofs.Common.{◌∙◌, eqb→eq}
use Rattle.std.proofs.Math.Bool.{true, false, cond, not}
use Rattle.std.proofs.Math.Option.{Option, none, some}
use mathlib.Core.List.{List, [], ◌∷◌, map, Memᴰ}
use Prim.Native.Nat.{ℕ, zero, suc}
use Rattle.std.proofs.Math.Dec.{T, eqb}
use Rattle.format.specs.Ids.{NONE}
use Rattle.volume.specs.Lists.{bind, has}
use Rattle.volume.specs.View.{View}
use Rattle.volume.specs.Counting.{Volume, block_of, block_ids}
use Rattle.volume.specs.Contents.{chain_start, snoc, owns, owned, unnamed, last_block, chain_back, file_blocks}
use Rattle.volume_laws.specs.Tests.{T_iff, true→T, has_some}
use Rattle.volume_laws.specs.Lists.{keep_mem, all_cong}
use Rattle.volume_laws.specs.Once.{Alike, alike_keep, alike_both, alike_only, alike_all, alike_length}
use Rattle.volume_laws.specs.Map.{over, snoc_over}
use Rattle.volume_laws.specs.Contents.{Carried}
use Rattle.volume_laws.specs.Counting.{Ids, ids_of_lem, counting_mem, Agree, Retained, counting_retained}

module _ {A : Type 0} (F : View A) where
  -- a counting block has one of the block ids
  pub owns_there : (c : ℕ → Option A) (l : List ℕ) → Ids F c l → (f i : ℕ) → T (owns F c f i) → Memᴰ i l
  unfolding owns
  owns_there c l h f i t = let s = has_some (λ r. eqb (F.owner r) f) (c i) t in h.each i s.0 s.1

  pub owned_owns : (v : Volume A) (f i : ℕ) → Memᴰ i (owned F v f) → T (owns F (block_of F v) f i)
  unfolding owned
  owned_owns v f i m = (keep_mem (owns F (block_of F v) f) (block_ids F v) m).1

  -- Two volumes, and a file to which the same ids belong: of each of its blocks the one has r and the other φ r, behind the same block
  module _ (v w : Volume A) (f : ℕ) (φ : A → A) (same : (i : ℕ) → owns F (block_of F w) f i ≡ owns F (block_of F v) f i)
      (there : Carried F v w f φ) where
    owned_alike : Alike (owned F w f) (owned F v f)
    unfolding owned
    owned_alike = alike_keep (owns F (block_of F w) f) (owns F (block_of F v) f) (block_ids F w) (block_ids F v)
        (ids_of_lem F w.blocks).nodup (ids_of_lem F v.blocks).nodup same
        (owns_there (block_of F w) (block_ids F w) (ids_of_lem F w.blocks) f)
        (owns_there (block_of F v) (block_ids F v) (ids_of_lem F v.blocks) f)

    chain_map : (k i : ℕ) → chain_back F (block_of F w) f k i ≡ over (map φ) (chain_back F (block_of F v) f k i)
    unfolding chain_back owns
    chain_map zero i = go (eqb i NONE)
      where
        go : (b : Bool) → cond b (some []) none ≡ over (map φ) (cond b (some []) none)
        go true = refl
        go false = refl
    chain_map (suc k) i = rw (chain_back, same i) (go (owns F (block_of F v) f i) refl (block_of F v i) refl (λ r. chain_map k (F.previous r)))
      where
        nothing : block_of F v i ≡ none → ¬ T (owns F (block_of F v) f i)
        nothing q t = rw q at t

        go : (b : Bool) → owns F (block_of F v) f i ≡ b → (o : Option A) → block_of F v i ≡ o
            → ((r : A) → chain_back F (block_of F w) f k (F.previous r) ≡ over (map φ) (chain_back F (block_of F v) f k (F.previous r)))
            → cond b (bind (block_of F w i) (λ r. snoc (chain_back F (block_of F w) f k (F.previous r)) r)) none
            ≡ over (map φ) (cond b (bind o (λ r. snoc (chain_back F (block_of F v) f k (F.previous r)) r)) none)
        go false e o q ih = refl
        go true e none q ih = absurd (nothing q (true→T e))
        go true e (some r) q ih =
            let t = there i r q (true→T e) in
            rw (t.0, t.1, ih r) (snoc_over φ (chain_back F (block_of F v) f k (F.previous r)) r)

    unnamed_same : (i : ℕ) → unnamed F (block_of F w) (owned F w f) i ≡ unnamed F (block_of F v) (owned F v f) i
    unfolding unnamed owns
    unnamed_same i =
        alike_all _ (owned F w f) (owned F v f) owned_alike
        ∙ all_cong (λ j. not (has (λ r. eqb (F.previous r) i) (block_of F w j))) (λ j. not (has (λ r. eqb (F.previous r) i) (block_of F v j)))
        (owned F v f) (λ j k. named j (has_some (λ r. eqb (F.owner r) f) (block_of F v j) (owned_owns v f j k)))
      where
        named : (j : ℕ) → (r : A) × (block_of F v j ≡ some r) × T (eqb (F.owner r) f)
            → not (has (λ r. eqb (F.previous r) i) (block_of F w j)) ≡ not (has (λ r. eqb (F.previous r) i) (block_of F v j))
        named j s = let t = there j s.0 s.1 (rw s.1 s.2) in rw (t.0, s.1, t.1)

    last_same : last_block F w f ≡ last_block F v f
    unfolding last_block
    last_same = ap chain_start (alike_only _ _
        (alike_both (unnamed F (block_of F w) (owned F w f)) (unnamed F (block_of F v) (owned F v f)) (owned F w f) (owned F v f)
        owned_alike unnamed_same))

    -- it has these blocks in the same order, or is broken in both
    pub blocks_map : file_blocks F w f ≡ over (map φ) (file_blocks F v f)
    unfolding file_blocks
    blocks_map = rw (file_blocks, last_same, alike_length _ _ owned_alike) (go (last_block F v f))
      where
        go : (o : Option ℕ) → bind o (chain_back F (block_of F w) f (length (owned F v f)))
            ≡ over (map φ) (bind o (chain_back F (block_of F v) f (length (owned F v f))))
        go none = refl
        go (some i) = chain_map (length (owned F v f)) i

  -- with the very same blocks it has the same ones in order
  pub blocks_same : (v w : Volume A) (f : ℕ) → ((i : ℕ) → owns F (block_of F w) f i ≡ owns F (block_of F v) f i)
      → ((i : ℕ) → T (owns F (block_of F v) f i) → block_of F w i ≡ block_of F v i) → file_blocks F w f ≡ file_blocks F v f
  blocks_same v w f same there =
      blocks_map v w f (λ r. r) same (λ i r e t. (there i t ∙ e, refl)) ∙ go (file_blocks F v f)
    where
      each : (l : List A) → map (λ r. r) l ≡ l
      each [] = refl
      each (r ∷ l) = let e = each l in λ i. r ∷ e i

      go : (o : Option (List A)) → over (map (λ r. r)) o ≡ o
      go none = refl
      go (some l) = ap some (each l)

  -- "any block that some version gives to it": fewer blocks, all versions of each such block among them
  pub blocks_retained : (v w : Volume A) → Agree F v.blocks → ((r : A) → Memᴰ r w.blocks → Memᴰ r v.blocks) → (f : ℕ)
      → ((r : A) → Memᴰ r v.blocks → F.owner r ≡ f → Retained F v.blocks w.blocks (F.id r))
      → file_blocks F w f ≡ file_blocks F v f
  unfolding owns
  blocks_retained v w ag sub f h = blocks_same v w f (λ i. T_iff _ _ (λ t. rw (← old i t) t) (λ t. rw (new i t) t)) new
    where
      given : (i : ℕ) (r : A) → Memᴰ r v.blocks → F.id r ≡ i → T (eqb (F.owner r) f) → block_of F w i ≡ block_of F v i
      given i r m e t = counting_retained F v.blocks w.blocks ag sub i (λ s n q. h r m (eqb→eq (F.owner r) f t) s n (q ∙ sym e))

      new : (i : ℕ) → T (owns F (block_of F v) f i) → block_of F w i ≡ block_of F v i
      new i t =
          let s = has_some (λ r. eqb (F.owner r) f) (block_of F v i) t in
          let m = counting_mem F v.blocks i s.0 s.1 in
          given i s.0 m.0 m.1 s.2

      old : (i : ℕ) → T (owns F (block_of F w) f i) → block_of F w i ≡ block_of F v i
      old i t =
          let s = has_some (λ r. eqb (F.owner r) f) (block_of F w i) t in
          let m = counting_mem F w.blocks i s.0 s.1 in
          given i s.0 (sub s.0 m.0) m.1 s.2
