-- The chain of a file's blocks: each of them counts, and none stands in it twice.
use Rattle.std.proofs.Math.Path.{◌≡◌, refl}
use Rattle.std.proofs.Common.{sym, ap, ◌∙◌, ⊎_elim, arith, eqb→eq}
use Rattle.std.specs.Prelude.{◌≢◌, Bool, ℕ, zero, suc, ◌<◌, length}
use Rattle.std.proofs.Math.Bool.{true, false, cond}
use Rattle.std.proofs.Math.Option.{Option, none, some}
use mathlib.Core.List.{List, [], ◌∷◌, ◌++◌, map, Memᴰ}
use Rattle.std.proofs.Math.Dec.{T, eqb}
use Rattle.format.specs.Ids.{NONE}
use Rattle.volume.specs.Lists.{bind}
use Rattle.volume.specs.View.{View}
use Rattle.volume.specs.Counting.{Volume, block_of}
use Rattle.volume.specs.Contents.{snoc, owns, owned, last_block, chain_back, file_blocks}
use Rattle.volume_laws.specs.Tests.{true→T}
use Rattle.volume_laws.specs.Lists.{map_append}
use Rattle.volume_laws.specs.Once.{Nodup}
use Rattle.volume_laws.specs.Counting.{counting_mem, counting_absent}
use Rattle.volume_laws.specs.Chain.{NoBlock, FileBlocks}

-- one more that is not there yet
nodup_snoc : (l : List ℕ) (x : ℕ) → Nodup l → ¬ Memᴰ x l → Nodup (l ++ (x ∷ []))
nodup_snoc [] x n h = (mathlib.Core.List.Memᴰ.not-nil, tt)
nodup_snoc (y ∷ l) x n h = (
  (λ m. ⊎_elim n.0 (λ k. h (mathlib.Core.List.Memᴰ.head (sym (mathlib.Core.List.Memᴰ.eq_of_singleton k)))) (mathlib.Core.List.Memᴰ.append_cases l m)),
  nodup_snoc l x n.1 (λ m. h (mathlib.Core.List.Memᴰ.tail m)),
)

-- c says which record counts for an id
module _ {A : Type 0} (F : View A) (c : ℕ → Option A) (f : ℕ) where
  -- the last block of a chain, and the chain behind it
  record Step (k i : ℕ) (bs : List A) : Type 0 where
    last : A
    counts : c i ≡ some last
    owned_by : T (owns F c f i)
    before : List A
    goes_on : chain_back F c f k (F.previous last) ≡ some before
    split : bs ≡ before ++ (last ∷ [])

  -- a chain of some blocks has them
  chain_step : (k i : ℕ) (bs : List A) → chain_back F c f (suc k) i ≡ some bs → Step k i bs
  unfolding chain_back
  chain_step k i bs e = go (owns F c f i) refl (c i) refl e
    where
      at_end : (r : A) → c i ≡ some r → T (owns F c f i) → (o : Option (List A)) → chain_back F c f k (F.previous r) ≡ o → snoc o r ≡ some bs
          → Step k i bs
      at_end r q t none z y = let x : ◌≡◌ {A = ℕ} 0 1 = cc in absurd (omega arith)
      at_end r q t (some l) z y = record { last = r; counts = q; owned_by = t; before = l; goes_on = z; split = cc }

      go : (b : Bool) → owns F c f i ≡ b → (o : Option A) → c i ≡ o
          → cond b (bind o (λ r. snoc (chain_back F c f k (F.previous r)) r)) none ≡ some bs → Step k i bs
      go false t o q z = let x : ◌≡◌ {A = ℕ} 0 1 = cc in absurd (omega arith)
      go true t none q z = let x : ◌≡◌ {A = ℕ} 0 1 = cc in absurd (omega arith)
      go true t (some r) q z = at_end r q (true→T t) (chain_back F c f k (F.previous r)) refl z

  -- a chain of none starts at NONE
  chain_end : (i : ℕ) (bs : List A) → chain_back F c f zero i ≡ some bs → (i ≡ NONE) × (bs ≡ [])
  unfolding chain_back
  chain_end i bs e = go (eqb i NONE) refl e
    where
      go : (b : Bool) → eqb i NONE ≡ b → cond b (some []) none ≡ some bs → (i ≡ NONE) × (bs ≡ [])
      go true q z = (eqb→eq i NONE (true→T q), cc)
      go false q z = let x : ◌≡◌ {A = ℕ} 0 1 = cc in absurd (omega arith)

  -- each block of a chain counts for some id
  pub chain_counts : (k i : ℕ) (bs : List A) → chain_back F c f k i ≡ some bs → (r : A) → Memᴰ r bs → (j : ℕ) × (c j ≡ some r)
  chain_counts zero i bs e r m = absurd (mathlib.Core.List.Memᴰ.not-nil (rw (chain_end i bs e).1 at m))
  chain_counts (suc k) i bs e r m =
      let s = chain_step k i bs e in
      let n : Memᴰ r (s.before ++ (s.last ∷ [])) = rw s.split at m in
      ⊎_elim (chain_counts k (F.previous s.last) s.before s.goes_on r)
      (λ n. (i, s.counts ∙ ap some (sym (mathlib.Core.List.Memᴰ.eq_of_singleton n)))) (mathlib.Core.List.Memᴰ.append_cases s.before n)

-- it counts for its own id, and NONE is no block
module _ {A : Type 0} (F : View A) (c : ℕ → Option A) (f : ℕ) (own_id_lem : (i : ℕ) (r : A) → c i ≡ some r → F.id r ≡ i) (no_none : NoBlock c) where
  -- and one of some does not
  none_first : (k i : ℕ) (bs : List A) → i ≡ NONE → chain_back F c f (suc k) i ≡ some bs → ⊥
  none_first k i bs e q =
      let s = chain_step F c f k i bs q in
      let z : none ≡ some s.last = sym no_none ∙ ap c (sym e) ∙ s.counts in
      let y : ◌≡◌ {A = ℕ} 0 1 = cc in omega arith

  -- from one id back to NONE there is one number of blocks
  chain_exact : (k n i : ℕ) (bs cs : List A) → chain_back F c f k i ≡ some bs → chain_back F c f n i ≡ some cs → k ≡ n
  chain_exact zero zero i bs cs p q = refl
  chain_exact zero (suc n) i bs cs p q = absurd (none_first n i cs (chain_end F c f i bs p).0 q)
  chain_exact (suc k) zero i bs cs p q = absurd (none_first k i bs (chain_end F c f i cs q).0 p)
  chain_exact (suc k) (suc n) i bs cs p q =
      let s = chain_step F c f k i bs p in
      let t = chain_step F c f n i cs q in
      let z : s.last ≡ t.last = some_inj (sym s.counts ∙ t.counts) in
      ap suc (chain_exact k n (F.previous s.last) s.before t.before s.goes_on (rw z t.goes_on))
    where
      some_inj : {a b : A} → some a ≡ some b → a ≡ b
      some_inj e = cc

  -- a block of a chain counts, and the chain from it on back is shorter
  record Within (k : ℕ) (r : A) : Type 0 where
    counts : c (F.id r) ≡ some r
    owned_by : T (owns F c f (F.id r))
    rest : ℕ
    shorter : rest < k
    before : List A
    from_it : chain_back F c f (suc rest) (F.id r) ≡ some before

  -- each block of a chain is so
  chain_each : (k i : ℕ) (bs : List A) → chain_back F c f k i ≡ some bs → (r : A) → Memᴰ r bs → Within k r
  chain_each zero i bs e r m = absurd (mathlib.Core.List.Memᴰ.not-nil (rw (chain_end F c f i bs e).1 at m))
  chain_each (suc k) i bs e r m =
      let s = chain_step F c f k i bs e in
      let n : Memᴰ r (s.before ++ (s.last ∷ [])) = rw s.split at m in
      ⊎_elim (λ n. on (chain_each k (F.previous s.last) s.before s.goes_on r n)) (λ n. here s (mathlib.Core.List.Memᴰ.eq_of_singleton n))
      (mathlib.Core.List.Memᴰ.append_cases s.before n)
    where
      on : Within k r → Within (suc k) r
      on w = record {
        counts = w.counts;
        owned_by = w.owned_by;
        rest = w.rest;
        shorter = omega (arith, w.shorter);
        before = w.before;
        from_it = w.from_it;
      }

      here : (s : Step F c f k i bs) → r ≡ s.last → Within (suc k) r
      here s q =
          let z : F.id r ≡ i = ap F.id q ∙ own_id_lem i s.last s.counts in
          record {
            counts = rw z (s.counts ∙ ap some (sym q));
            owned_by = rw z s.owned_by;
            rest = k;
            shorter = omega arith;
            before = bs;
            from_it = rw z e;
          }

  -- so that none comes twice: it would have two numbers of blocks behind it
  chain_nodup : (k i : ℕ) (bs : List A) → chain_back F c f k i ≡ some bs → Nodup (map F.id bs)
  chain_nodup zero i bs e = rw (chain_end F c f i bs e).1 tt
  chain_nodup (suc k) i bs e =
      let s = chain_step F c f k i bs e in
      rw (s.split, map_append F.id s.before (s.last ∷ []))
      (nodup_snoc (map F.id s.before) (F.id s.last)
      (chain_nodup k (F.previous s.last) s.before s.goes_on) (again s))
    where
      again : (s : Step F c f k i bs) → ¬ Memᴰ (F.id s.last) (map F.id s.before)
      again s m =
          let r = mathlib.Core.List.Memᴰ.of_map F.id s.before m in
          let w = chain_each k (F.previous s.last) s.before s.goes_on r.0 r.1 in
          let z : F.id r.0 ≡ i = r.2 ∙ own_id_lem i s.last s.counts in
          let n = chain_exact (suc w.rest) (suc k) i w.before bs (rw z at w.from_it) e in
          omega (arith, w.shorter)

-- where NONE is no block
pub file_blocks_lem : {A : Type 0} (F : View A) (v : Volume A) → ((r : A) → Memᴰ r v.blocks → F.id r ≢ NONE)
    → (f : ℕ) (bs : List A) → file_blocks F v f ≡ some bs → FileBlocks F v f bs
unfolding file_blocks owns
file_blocks_lem {A} F v no_none f bs e = go (last_block F v f) refl e
  where
    own : (i : ℕ) (r : A) → block_of F v i ≡ some r → F.id r ≡ i
    own i r q = (counting_mem F v.blocks i r q).1

    absent : block_of F v NONE ≡ none
    absent = counting_absent F v.blocks NONE no_none

    go : (o : Option ℕ) → last_block F v f ≡ o → bind o (chain_back F (block_of F v) f (length (owned F v f))) ≡ some bs → FileBlocks F v f bs
    go none q z = let x : ◌≡◌ {A = ℕ} 0 1 = cc in absurd (omega arith)
    go (some i) q z = record {
      counts = λ r m. (chain_each F (block_of F v) f own absent (length (owned F v f)) i bs z r m).counts;
      owner = λ r m. let w = chain_each F (block_of F v) f own absent (length (owned F v f)) i bs z r m in
          let t : T (eqb (F.owner r) f) = rw w.counts at w.owned_by in eqb→eq (F.owner r) f t;
      once = chain_nodup F (block_of F v) f own absent (length (owned F v f)) i bs z;
    }
