-- Records each once, at their first places: with one record more, of one kind, by their bytes, and how many there can be.
use Rattle.std.specs.Prelude.{ℕ, ◌+◌, ◌≤◌, Bool, ◌&&◌}
use Rattle.std.proofs.Math.Path.{◌≡◌, refl, sym, ap}
use Rattle.std.proofs.Common.{◌∙◌, arith}
use Rattle.std.proofs.Math.Bool.{true, false, cond, not}
use Rattle.std.proofs.Math.Option.{some}
use mathlib.Core.List.Memᴰ
use mathlib.Core.List.{List, [], ◌∷◌, ◌++◌, map, Memᴰ}
use Rattle.std.proofs.Math.ListN.{length, length-map}
use Rattle.std.proofs.Math.Dec.{T, T_not}
use Rattle.format.specs.Bytes.{Bytes, le32}
use Rattle.volume.specs.Lists.{keep, all, same}
use Rattle.volume_laws.specs.Tests.{T→true, true→T, not_T→false, and_T, has_some}
use Rattle.volume_laws.specs.Lists.{same_refl, same_eq, keep_append, keep_comm, keep_mem, keep_map, get_or_mem}
use Rattle.volume_laws.specs.Once.{Nodup, pigeons}
use Rattle.calls.specs.Collect.{first_places}
use Rattle.record_places.specs.Place.{bytes_at, block_at, by_place}
use Rattle.record_places.specs.Laws.{place_views}
use Rattle.table_words.specs.Laws.{position_found}
use Rattle.table_rows.specs.Table.{found, row_of}
use Rattle.table_rows.specs.Laws.{held_some}
use Rattle.collect_copies.specs.Copied.{Table, Tables, table_of, inside, dropped, counts_in, copied, first_at, none_same}
use Rattle.collect_copies.specs.Lists.{all_kept, keep_kept, keep_parts, nodup_part}

module _ (image : Bytes) where
  abbrev alike : ℕ → ℕ → Bool
  alike p q = (by_place image).same p q

  -- records of the same bytes
  pub alike_bytes : (p q : ℕ) → alike p q ≡ true → bytes_at image p ≡ bytes_at image q
  alike_bytes p q e = same_eq (bytes_at image p) (bytes_at image q) (true→T e)

  -- one more record behind
  module _ (p x : ℕ) where
    apart_still : alike p x ≡ false → (q : ℕ) → not (alike p q) ≡ false → not (alike q x) ≡ true
    apart_still e q n = go (alike p q) refl n
      where
        go : (b : Bool) → alike p q ≡ b → not b ≡ false → not (alike q x) ≡ true
        go true f m = let z : alike q x ≡ false = rw (alike_bytes p q f) at e in rw z
        go false f m = let z : ◌≡◌ {A = ℕ} 0 1 = cc in absurd (omega arith)

  pub first_snoc : (l : List ℕ) (x : ℕ) → first_at image (l ++ (x ∷ [])) ≡ first_at image l ++ cond (none_same image (first_at image l) x) (x ∷ []) []
  unfolding first_at keep none_same all
  first_snoc [] x = refl
  first_snoc (p ∷ l) x =
      ap (λ m. p ∷ m)
      (ap (keep (λ q. not (alike p q))) (first_snoc l x)
      ∙ keep_append (λ q. not (alike p q)) (first_at image l) (cond (none_same image (first_at image l) x) (x ∷ []) [])
      ∙ ap (λ m. keep (λ q. not (alike p q)) (first_at image l) ++ m) (step (alike p x) refl (none_same image (first_at image l) x) refl))
    where
      step : (b : Bool) → alike p x ≡ b → (c : Bool) → none_same image (first_at image l) x ≡ c
          → keep (λ q. not (alike p q)) (cond c (x ∷ []) [])
          ≡ cond (not (alike p x) && all (λ q. not (alike q x)) (keep (λ q. not (alike p q)) (first_at image l))) (x ∷ []) []
      step true e true f = rw e
      step true e false f = rw e
      step false e true f =
          rw (e, all_kept (λ q. not (alike q x)) (λ q. not (alike p q)) (first_at image l) (apart_still p x e), f)
      step false e false f =
          rw (e, all_kept (λ q. not (alike q x)) (λ q. not (alike p q)) (first_at image l) (apart_still p x e), f)

  -- a filter that asks only the bytes
  pub first_keep : (f : ℕ → Bool) → ((p q : ℕ) → alike p q ≡ true → f p ≡ f q) → (l : List ℕ) → first_at image (keep f l) ≡ keep f (first_at image l)
  unfolding first_at keep
  first_keep f h [] = refl
  first_keep f h (p ∷ l) = go (f p) refl (first_keep f h l)
    where
      go : (b : Bool) → f p ≡ b → first_at image (keep f l) ≡ keep f (first_at image l)
          → first_at image (cond b (p ∷ keep f l) (keep f l))
          ≡ cond b (p ∷ keep f (keep (λ q. not (alike p q)) (first_at image l))) (keep f (keep (λ q. not (alike p q)) (first_at image l)))
      go true e ih = ap (λ m. p ∷ m) (ap (keep (λ q. not (alike p q))) ih ∙ keep_comm (λ q. not (alike p q)) f (first_at image l))
      go false e ih = ih ∙ sym (keep_kept f (λ q. not (alike p q)) (first_at image l) out)
        where
          out : (q : ℕ) → not (alike p q) ≡ false → f q ≡ false
          out q n = at (alike p q) refl n
            where
              at : (c : Bool) → alike p q ≡ c → not c ≡ false → f q ≡ false
              at true g m = sym (h p q g) ∙ e
              at false g m = let z : ◌≡◌ {A = ℕ} 0 1 = cc in absurd (omega arith)

  -- by their bytes
  pub first_bytes : (l : List ℕ) → map (bytes_at image) (first_at image l) ≡ first_places (map (bytes_at image) l)
  unfolding first_at first_places
  first_bytes [] = refl
  first_bytes (p ∷ l) =
      ap (λ m. bytes_at image p ∷ m)
      (sym (keep_map (bytes_at image) (λ c. not (same (bytes_at image p) c)) (first_at image l))
      ∙ ap (keep (λ c. not (same (bytes_at image p) c))) (first_bytes l))

  pub first_mem : (l : List ℕ) {p : ℕ} → Memᴰ p (first_at image l) → Memᴰ p l
  unfolding first_at
  first_mem [] {p = p} m = elim m [ ]
  first_mem (q ∷ l) (Memᴰ.head e) = Memᴰ.head e
  first_mem (q ∷ l) (Memᴰ.tail m) = Memᴰ.tail (first_mem l (keep_mem _ (first_at image l) m).0)

  -- ---- no more records of one table than it has ids

  module _ (u : Table) where
    -- two records of one id that a table has are alike
    counts_alike : (p q : ℕ) → counts_in image u p ≡ true → counts_in image u q ≡ true → le32 image (p + 4) ≡ le32 image (q + 4) → alike p q ≡ true
    unfolding counts_in
    counts_alike p q a b e =
        let r = has_some (alike p) (found (length u.ids) u.ids u.spots (le32 image (p + 4))) (true→T a) in
        let s = has_some (alike q) (found (length u.ids) u.ids u.spots (le32 image (q + 4))) (true→T b) in
        let z : some r.0 ≡ some s.0 = sym r.1 ∙ ap (found (length u.ids) u.ids u.spots) e ∙ s.1 in
        let y : r.0 ≡ s.0 = cc in
        let k = same_eq (bytes_at image p) (bytes_at image r.0) r.2 in
        let l = same_eq (bytes_at image q) (bytes_at image s.0) s.2 in
        let m : bytes_at image p ≡ bytes_at image q = k ∙ ap (bytes_at image) y ∙ sym l in
        T→true (rw m (same_refl (bytes_at image q)))

    ids_apart : (l : List ℕ) → ((p : ℕ) → Memᴰ p l → counts_in image u p ≡ true) → Nodup (map (λ p. le32 image (p + 4)) (first_at image l))
    unfolding first_at
    ids_apart [] h = tt
    ids_apart (p ∷ l) h = (
      (λ m.
          let r = Memᴰ.of_map (λ p. le32 image (p + 4)) (keep (λ q. not (alike p q)) (first_at image l)) m in
          let k = keep_mem (λ q. not (alike p q)) (first_at image l) r.1 in
          let e = counts_alike p r.0 (h p (Memᴰ.head refl)) (h r.0 (Memᴰ.tail (first_mem l k.0))) (sym r.2) in
          T_not (alike p r.0) k.1 (true→T e)),
      nodup_part (λ p. le32 image (p + 4)) (λ q. not (alike p q)) (first_at image l) (ids_apart l (λ q m. h q (Memᴰ.tail m))),
    )

    pub few_of_table : (l : List ℕ) → ((p : ℕ) → Memᴰ p l → counts_in image u p ≡ true) → length (first_at image l) ≤ length u.ids
    unfolding counts_in
    few_of_table l h =
        let k = pigeons (map (λ p. le32 image (p + 4)) (first_at image l)) u.ids (ids_apart l h) (λ i m. listed i m) in
        omega (arith, length-map (first_at image l) (λ p. le32 image (p + 4)))
      where
        listed : (i : ℕ) → Memᴰ i (map (λ p. le32 image (p + 4)) (first_at image l)) → Memᴰ i u.ids
        listed i m =
            let r = Memᴰ.of_map (λ p. le32 image (p + 4)) (first_at image l) m in
            let n = length u.ids in
            let j = le32 image (r.0 + 4) in
            let s = has_some (alike r.0) (found n u.ids u.spots j) (true→T (h r.0 (first_mem l r.1))) in
            let k = held_some n u.spots (row_of n u.ids j) s.0 s.1 in
            Memᴰ.cast (sym (position_found j n u.ids (omega arith) k.0 ∙ r.2)) (get_or_mem u.ids (row_of n u.ids j) 0 k.0)

  -- records of one kind have their bytes of one kind
  kind_alike : (p q : ℕ) → alike p q ≡ true → block_at image p ≡ block_at image q
  kind_alike p q e = let w = place_views image in sym (w.is_block p) ∙ rw (alike_bytes p q e) (w.is_block q)

  -- no more copies than there are ids in both tables
  pub few_copied : (o n : ℕ) (ps : List ℕ) (t : Tables) (l : List ℕ)
      → length (first_at image (keep (copied image o n ps t) l)) ≤ length t.inodes.ids + length t.blocks.ids
  unfolding copied
  few_copied o n ps t l =
      let x = keep (copied image o n ps t) l in
      let b = few_of_table t.blocks (keep (block_at image) x) (λ p m. of_kind true p (keep_mem (block_at image) x m).0 (T→true (keep_mem (block_at image) x m).1)) in
      let i = few_of_table t.inodes (keep (λ p. not (block_at image p)) x)
      (λ p m. of_kind false p (keep_mem (λ p. not (block_at image p)) x m).0
      (not_T→false (T_not (block_at image p) (keep_mem (λ p. not (block_at image p)) x m).1))) in
      let f = ap length (first_keep (block_at image) kind_alike x) in
      let e = ap length (first_keep (λ p. not (block_at image p)) (λ p q e. ap not (kind_alike p q e)) x) in
      omega (arith, keep_parts (block_at image) (first_at image x))
    where
      of_kind : (b : Bool) (p : ℕ) → Memᴰ p (keep (copied image o n ps t) l) → block_at image p ≡ b → counts_in image (table_of b t) p ≡ true
      of_kind b p m e =
          let counted = counts_in image (table_of (block_at image p) t) p in
          let stays = not (dropped image o n ps t.inodes p) in
          let c : T counted = (and_T counted stays (and_T (inside o n p) (counted && stays) (keep_mem (copied image o n ps t) l m).1).1).0 in
          T→true (rw e at c)
