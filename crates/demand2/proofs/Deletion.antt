-- A deletion record in a volume: the inode and all below it are dead, and all else is as it was.
use Rattle.std.specs.Prelude.{ℕ, ◌≡◌, ◌⊎◌, ◌≢◌, Bool, false}
use Rattle.std.proofs.Math.Path.{refl}
use Rattle.std.proofs.Common.{sym, ap, ◌∙◌, inr}
use Rattle.std.proofs.Math.Logic.{inl}
use Rattle.std.proofs.Math.Bool.{true}
use mathlib.Core.List.{List, [], ◌∷◌, ◌++◌, Memᴰ}
use Rattle.std.proofs.Math.Dec.{T}
use Rattle.format.specs.Bytes.{Bytes}
use Rattle.format.specs.Ids.{NONE, root_id, is_directory_id}
use Rattle.volume.specs.Lists.{Only, nobody, several, one, only}
use Rattle.volume.specs.View.{View}
use Rattle.volume.specs.Counting.{Volume, inode_of}
use Rattle.volume.specs.Fate.{live, dead, ascend, fate_of, lineage}
use Rattle.volume.specs.Tree.{found, absent, onward, is_child, children, walk, lookup_names}
use Rattle.volume_laws.specs.Tests.{T_iff, true→T, eqb_differ}
use Rattle.volume_laws.specs.Climb.{live_not_dead, fate_own}
use Rattle.volume_laws.specs.Sound.{Sound}
use Rattle.volume_laws.specs.Tree.{only_same}
use Rattle.demand2.proofs.Added.{child_same}
use Rattle.demand2.specs.Found.{sole, sole_child, no_child, child_lives}
use Rattle.demand2.specs.Lineage.{mem_dec, lineage_fate, root_outside, child_outside, lookup_stays, lookup_lost}
use Rattle.demand2.specs.Newer.{Newer}
use Rattle.demand2.proofs.Newer.{newer_counts, outside_fate, below_fate}
use Rattle.demand2.specs.Deletion.{InodeGone}

-- w is v and the deletion record r of an inode that was live and is not the root
module _ {A : Type 0} (F : View A) (v w : Volume A) (r : A) (a : Newer F v w r) (sound : Sound F v)
    (no_root_lem : F.id r ≢ root_id) (deletes : F.parent r ≡ NONE) (lived : fate_of F v (F.id r) ≡ live) where
  -- the chain of parents ends at it
  ends : ascend F (inode_of F w (F.id r)) ≡ inl dead
  unfolding ascend
  ends = rw ((newer_counts F v w r a).here, ascend, eqb_differ (F.id r) root_id no_root_lem, deletes)

  -- what is not below it keeps its fate
  outside : (j : ℕ) → ¬ Memᴰ (F.id r) (lineage F v j) → fate_of F w j ≡ fate_of F v j
  outside = outside_fate F v w r a

  -- it and what is below it is dead
  below_dead : (j : ℕ) → Memᴰ (F.id r) (lineage F v j) → fate_of F w j ≡ dead
  below_dead j m = below_fate F v w r a j m ∙ fate_own F w (F.id r) dead ends

  -- nothing comes to life
  no_life : (j : ℕ) → fate_of F w j ≡ live → fate_of F v j ≡ live
  no_life j e = go (mem_dec (F.id r) (lineage F v j))
    where
      go : Dec (Memᴰ (F.id r) (lineage F v j)) → fate_of F v j ≡ live
      go (yes m) = absurd (live_not_dead (sym e ∙ below_dead j m))
      go (no m) = sym (outside j m) ∙ e

  -- what was not live keeps its fate
  unlive_fate : (j : ℕ) → fate_of F v j ≢ live → fate_of F w j ≡ fate_of F v j
  unlive_fate j n = outside j (λ m. n (sym (lineage_fate F v (F.id r) j m) ∙ lived))

  -- ---- who is whose child

  -- those outside stay
  child_stays : (e : ℕ) (n : Bytes) (j : ℕ) → ¬ Memᴰ (F.id r) (lineage F v j) → is_child F w e n j ≡ is_child F v e n j
  unfolding lineage
  child_stays e n j b = child_same F v w e n j ((newer_counts F v w r a).others j (λ z. b (Memᴰ.head (sym z)))) (outside j b)

  -- and no others come
  child_old : (e : ℕ) (n : Bytes) (j : ℕ) → T (is_child F w e n j) → T (is_child F v e n j)
  child_old e n j t = rw (← child_stays e n j (λ m. live_not_dead (sym (child_lives F w e n j t) ∙ below_dead j m))) t

  -- an only child outside is one still
  still_one : (e : ℕ) (n : Bytes) (x : ℕ) → only (children F v e n) ≡ one x → ¬ Memᴰ (F.id r) (lineage F v x) → only (children F w e n) ≡ one x
  still_one e n x q b =
      let s = sole F v e n x q in
      sole_child F w e n x (rw (child_stays e n x b) s.0) (λ y t. s.1 y (child_old e n y t))

  -- and the inode itself is no more
  now_none : (e : ℕ) (n : Bytes) → only (children F v e n) ≡ one (F.id r) → only (children F w e n) ≡ nobody
  unfolding lineage
  now_none e n q = no_child F w e n (λ y t.
      let z = (sole F v e n (F.id r) q).1 y (child_old e n y t) in
      live_not_dead (sym (child_lives F w e n y t) ∙ below_dead y (Memᴰ.head (sym z))))

  -- where it is not among the children of a name, they are the same
  only_stays : (e : ℕ) (n : Bytes) → is_directory_id e ≡ true → ¬ Memᴰ (F.id r) (lineage F v e) → ¬ T (is_child F v e n (F.id r))
      → only (children F w e n) ≡ only (children F v e n)
  only_stays e n dir b q = only_same F v w e n (λ y. T_iff (is_child F w e n y) (is_child F v e n y) (child_old e n y) (back y))
    where
      back : (y : ℕ) → T (is_child F v e n y) → T (is_child F w e n y)
      back y t = rw (child_stays e n y (child_outside F v sound (F.id r) e n y dir b t (λ z. q (rw z t)))) t

  -- it was the only child of its name
  module _ (alone : (e : ℕ) (n : Bytes) → T (is_child F v e n (F.id r)) → only (children F v e n) ≡ one (F.id r)) where
    -- a walk that does not come by it is answered as before
    walk_elsewhere : (e : ℕ) (ns : List Bytes) → ¬ Memᴰ (F.id r) (lineage F v e)
        → ((ms rest : List Bytes) → walk F v e ms ≡ found (F.id r) → ns ≢ ms ++ rest) → walk F w e ns ≡ walk F v e ns
    unfolding walk
    walk_elsewhere e [] b q = refl
    walk_elsewhere e (n ∷ ns) b q = go (is_directory_id e) refl (λ x. walk_elsewhere x ns)
      where
        not_there : is_directory_id e ≡ true → ¬ T (is_child F v e n (F.id r))
        not_there d t = q (n ∷ []) ns (rw (walk, d, alone e n t)) refl

        on : is_directory_id e ≡ true → (o : Only ℕ) → only (children F v e n) ≡ o
            → ((x : ℕ) → ¬ Memᴰ (F.id r) (lineage F v x)
            → ((ms rest : List Bytes) → walk F v x ms ≡ found (F.id r) → ns ≢ ms ++ rest) → walk F w x ns ≡ walk F v x ns)
            → onward true o (λ i. walk F w i ns) ≡ onward true o (λ i. walk F v i ns)
        on d nobody c ih = refl
        on d several c ih = refl
        on d (one x) c ih =
            let t = (sole F v e n x c).0 in
            ih x (child_outside F v sound (F.id r) e n x d b t (λ z. not_there d (rw z t)))
            (λ ms rest f z. q (n ∷ ms) rest (rw (walk, d, c) f) (ap (λ l. n ∷ l) z))

        go : (d : Bool) → is_directory_id e ≡ d
            → ((x : ℕ) → ¬ Memᴰ (F.id r) (lineage F v x)
            → ((ms rest : List Bytes) → walk F v x ms ≡ found (F.id r) → ns ≢ ms ++ rest) → walk F w x ns ≡ walk F v x ns)
            → walk F w e (n ∷ ns) ≡ walk F v e (n ∷ ns)
        go false d ih = rw d
        go true d ih = rw (d, only_stays e n d b (not_there d)) (on d (only (children F v e n)) refl ih)

    lookup_elsewhere : (ns : List Bytes) → ((ms rest : List Bytes) → lookup_names F v ms ≡ found (F.id r) → ns ≢ ms ++ rest)
        → lookup_names F w ns ≡ lookup_names F v ns
    unfolding lookup_names
    lookup_elsewhere ns = walk_elsewhere root_id ns (root_outside F v (F.id r) no_root_lem)

    -- and any other stays, or is answered by 9 now
    walk_either : (e : ℕ) (ns : List Bytes) → ¬ Memᴰ (F.id r) (lineage F v e) → (walk F w e ns ≡ walk F v e ns) ⊎ (walk F w e ns ≡ absent 9)
    unfolding walk
    walk_either e [] b = inl refl
    walk_either e (n ∷ ns) b = go (is_directory_id e) refl (is_child F v e n (F.id r)) refl (λ x. walk_either x ns)
      where
        on : is_directory_id e ≡ true → ¬ T (is_child F v e n (F.id r)) → (o : Only ℕ) → only (children F v e n) ≡ o
            → ((x : ℕ) → ¬ Memᴰ (F.id r) (lineage F v x) → (walk F w x ns ≡ walk F v x ns) ⊎ (walk F w x ns ≡ absent 9))
            → (onward true o (λ i. walk F w i ns) ≡ onward true o (λ i. walk F v i ns)) ⊎ (onward true o (λ i. walk F w i ns) ≡ absent 9)
        on d q nobody c ih = inl refl
        on d q several c ih = inl refl
        on d q (one x) c ih = let t = (sole F v e n x c).0 in ih x (child_outside F v sound (F.id r) e n x d b t (λ z. q (rw z t)))

        go : (d : Bool) → is_directory_id e ≡ d → (k : Bool) → is_child F v e n (F.id r) ≡ k
            → ((x : ℕ) → ¬ Memᴰ (F.id r) (lineage F v x) → (walk F w x ns ≡ walk F v x ns) ⊎ (walk F w x ns ≡ absent 9))
            → (walk F w e (n ∷ ns) ≡ walk F v e (n ∷ ns)) ⊎ (walk F w e (n ∷ ns) ≡ absent 9)
        go false d k q ih = inl (rw d)
        go true d true q ih = inr (rw (d, now_none e n (alone e n (true→T q))))
        go true d false q ih =
            let f : ¬ T (is_child F v e n (F.id r)) = λ t. rw q at t in
            rw (d, only_stays e n d b f) (on d f (only (children F v e n)) refl ih)

    lookup_either : (ns : List Bytes) → (lookup_names F w ns ≡ lookup_names F v ns) ⊎ (lookup_names F w ns ≡ absent 9)
    unfolding lookup_names
    lookup_either ns = walk_either root_id ns (root_outside F v (F.id r) no_root_lem)

  pub inode_gone : InodeGone F v w r
  inode_gone = record {
    below = below_dead;
    outside = outside;
    no_life = no_life;
    unlive = unlive_fate;
    lost = lookup_lost F v w sound (F.id r) still_one now_none no_root_lem;
    stays = lookup_stays F v w sound (F.id r) still_one now_none;
    elsewhere = lookup_elsewhere;
    either = lookup_either;
  }
