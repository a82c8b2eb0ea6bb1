-- The laws of fates by a table: one step up a chain of parents, and the volume whose inodes the rows are.
use Prim.Native.Nat.{ℕ, suc, ◌-◌, ◌≤◌, ◌<◌}
use Rattle.std.specs.Prelude.{◌≡◌, refl, ◌⊎◌, ◌≢◌, List}
use Rattle.std.proofs.Math.Path.{sym, ap}
use Rattle.std.proofs.Common.{◌∙◌, inl, inr}
use Rattle.std.proofs.Math.Option.{Option, none, some}
use native.Mathlib.Omega.{arith}
use Rattle.std.proofs.Math.ListN.{length}
use borrow.Author.Tests.{eq-eqb, ne_eqb}
use Rattle.format.specs.Ids.{NONE, root_id}
use Rattle.volume.specs.View.{View}
use Rattle.volume.specs.Counting.{Volume, inode_of, inode_ids}
use Rattle.volume.specs.Fate.{Fate, live, dead, orphan, is_live, ascend, climb, fate_within, fate_of, live_ids}
use Rattle.volume_laws.specs.Lists.{keep_cong}
use Rattle.volume_laws.specs.Climb.{climb_stop, climb_on, climb_same}
use Rattle.table_rows.specs.Table.{found, Rows}
use Rattle.table_rows.specs.Laws.{rows_number}
use Rattle.inode_fate.specs.Fates.{parent_up, fate_by, live_by, live_rows}

-- ---- one step up

module _ (F : View ℕ) (o : Option ℕ) where
  pub step_missing : o ≡ none → inl orphan ≡ parent_up F (ascend F o)
  unfolding ascend
  step_missing e = rw e

  module _ (r : ℕ) (there : o ≡ some r) where
    pub step_root : F.id r ≡ root_id → inl live ≡ parent_up F (ascend F o)
    unfolding ascend
    step_root e = rw (there, eq-eqb (F.id r) root_id e)

    pub step_deleted : F.id r ≢ root_id → F.parent r ≡ NONE → inl dead ≡ parent_up F (ascend F o)
    unfolding ascend
    step_deleted n e = rw (there, ne_eqb (F.id r) root_id n, eq-eqb (F.parent r) NONE e)

    pub step_above : F.id r ≢ root_id → F.parent r ≢ NONE → inr (F.parent r) ≡ parent_up F (ascend F o)
    unfolding ascend
    step_above n e = rw (there, ne_eqb (F.id r) root_id n, ne_eqb (F.parent r) NONE e)

-- ---- what is gathered along the chain, a step at a time: k inodes are left to look at

module _ {X : Type 0} (F : View ℕ) (stop : Fate → X) (on : ℕ → X → X) (c : ℕ → Option ℕ) (k i : ℕ) where
  -- none is left: the chain loops
  pub up_loops : k ≤ 0 → climb F stop on c k i ≡ stop orphan
  unfolding climb
  up_loops h = let z : k ≡ 0 = omega arith in rw z

  module _ (h : 0 < k) where
    suc_less : k ≡ suc (k - 1)
    suc_less = omega arith

    -- it ends
    pub up_ends : (f : Fate) → inl f ≡ parent_up F (ascend F (c i)) → climb F stop on c k i ≡ stop f
    up_ends f e = go (ascend F (c i)) refl e
      where
        go : (x : Fate ⊎ ℕ) → ascend F (c i) ≡ x → inl f ≡ parent_up F x → climb F stop on c k i ≡ stop f
        go (inl g) q e = let z : f ≡ g = cc in rw suc_less (climb_stop F stop on c (k - 1) i f (q ∙ ap inl (sym z)))
        go (inr r) q e = let z : ◌≡◌ {A = ℕ} 0 1 = cc in absurd (omega arith)

    -- it goes on above the record of i, with its parent p
    pub up_on : (p : ℕ) → inr p ≡ parent_up F (ascend F (c i))
        → (r : ℕ) × (F.parent r ≡ p) × (climb F stop on c k i ≡ on r (climb F stop on c (k - 1) p))
    up_on p e = go (ascend F (c i)) refl e
      where
        go : (x : Fate ⊎ ℕ) → ascend F (c i) ≡ x → inr p ≡ parent_up F x
            → (r : ℕ) × (F.parent r ≡ p) × (climb F stop on c k i ≡ on r (climb F stop on c (k - 1) p))
        go (inl g) q e = let z : ◌≡◌ {A = ℕ} 0 1 = cc in absurd (omega arith)
        go (inr r) q e = let z : F.parent r ≡ p = cc in
            (r, z, ap (λ j. climb F stop on c j i) suc_less ∙ climb_on F stop on c (k - 1) i r q ∙ ap (λ j. on r (climb F stop on c (k - 1) j)) z)

-- ---- the volume whose inodes the first n rows are

module _ (F : View ℕ) (v : Volume ℕ) (n : ℕ) (ids spots : List ℕ) (rows : Rows F v.inodes n ids spots) (within : n ≤ length ids) where
  -- the fate by the table is the fate: there are as many rows as inode ids
  pub fate_rows : (i : ℕ) → fate_by F n ids spots i ≡ fate_of F v i
  unfolding fate_of
  fate_rows i =
      climb_same F (λ f. f) (λ r f. f) (inode_of F v) (found n ids spots) n i (λ j m. sym (rows.counts j))
      ∙ ap (λ (k : ℕ). fate_within F (inode_of F v) k i) (rows_number F v.inodes n ids spots rows within)

  pub live_rows_lem : live_rows F n ids spots ≡ live_ids F v
  unfolding live_rows live_ids
  live_rows_lem = rw rows.ids_are (keep_cong (live_by F n ids spots) (λ i. is_live (fate_of F v i)) (inode_ids F v) (λ i m. rw (fate_rows i)))
