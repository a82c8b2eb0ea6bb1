-- Ancestors by a table. Document 01: "Ancestors follow the counting records"; document 02, T-01: "Moving a directory below itself".
use Rattle.std.specs.Prelude.{ℕ, ◌-◌, ◌≤◌, ◌<◌, ◌≡◌, refl, ◌≢◌, true, false, List, [], ◌∷◌, length, eqb}
use Rattle.std.proofs.Common.{sym, ap, ◌∙◌, inl, inr, eq-eqb, ne_eqb}
use Rattle.std.proofs.Math.Option.{Option}
use Rattle.std.proofs.Math.Decide.{ℕ_discrete}
use Rattle.volume.specs.Lists.{all}
use Rattle.volume.specs.View.{View}
use Rattle.volume.specs.Counting.{Volume, inode_of}
use Rattle.volume.specs.Fate.{Fate, ascend, lineage}
use Rattle.volume_laws.specs.Climb.{chain_within, climb_same}
use Rattle.calls.specs.Storing.{is_among}
use Rattle.table_rows.specs.Table.{found, Rows}
use Rattle.table_rows.specs.Laws.{rows_number}
use Rattle.inode_fate.specs.Fates.{parent_up}
use Rattle.inode_fate.specs.Laws.{up_loops, up_ends, up_on}

-- the ids of an inode and of its ancestors by the first n rows of a table: those of the volume whose inodes they are (law `lineage_rows`)
abbrev pub lineage_by : View ℕ → ℕ → List ℕ → List ℕ → ℕ → List ℕ
lineage_by F n ids spots i = chain_within F (found n ids spots) n i

-- ---- the id i sought in a list, a member at a time

among_head : (i j : ℕ) (l : List ℕ) → j ≡ i → is_among i (j ∷ l) ≡ true
unfolding is_among all
among_head i j l e = rw (eq-eqb i j (sym e))

among_tail : (i j : ℕ) (l : List ℕ) → j ≢ i → is_among i (j ∷ l) ≡ is_among i l
unfolding is_among all
among_tail i j l n = rw (ne_eqb i j (λ e. n (sym e)))

among_none : (i : ℕ) → is_among i [] ≡ false
unfolding is_among all
among_none i = refl

among_one : (i j : ℕ) → is_among i (j ∷ []) ≡ eqb j i
among_one i j = go (ℕ_discrete j i)
  where
    go : Dec (j ≡ i) → is_among i (j ∷ []) ≡ eqb j i
    go (yes e) = among_head i j [] e ∙ sym (eq-eqb j i e)
    go (no n) = among_tail i j [] n ∙ among_none i ∙ sym (ne_eqb j i n)

-- ---- and along the chain of parents from j, over k inodes that are left to look at

module _ (F : View ℕ) (c : ℕ → Option ℕ) (k j i : ℕ) where
  pub chain_here : j ≡ i → is_among i (chain_within F c k j) ≡ true
  chain_here e = among_head i j _ e

  pub chain_loops : k ≤ 0 → is_among i (chain_within F c k j) ≡ eqb j i
  chain_loops h = rw (up_loops F (λ f. []) (λ r l. F.parent r ∷ l) c k j h) (among_one i j)

  module _ (n : j ≢ i) where
    pub chain_ends : 0 < k → (f : Fate) → inl f ≡ parent_up F (ascend F (c j)) → is_among i (chain_within F c k j) ≡ false
    chain_ends h f e = rw (up_ends F (λ f. []) (λ r l. F.parent r ∷ l) c k j h f e) (among_tail i j [] n ∙ among_none i)

    pub chain_on : 0 < k → (p : ℕ) → inr p ≡ parent_up F (ascend F (c j)) → is_among i (chain_within F c k j) ≡ is_among i (chain_within F c (k - 1) p)
    chain_on h p e =
        let u = up_on F (λ f. []) (λ r l. F.parent r ∷ l) c k j h p e in
        among_tail i j _ n ∙ ap (is_among i) (u.2 ∙ rw u.1)

-- ---- the volume whose inodes the first n rows are

pub lineage_rows : (F : View ℕ) (v : Volume ℕ) (n : ℕ) (ids spots : List ℕ) → Rows F v.inodes n ids spots → n ≤ length ids
    → (i : ℕ) → lineage_by F n ids spots i ≡ lineage F v i
unfolding lineage
lineage_rows F v n ids spots rows within i =
    ap (λ (l : List ℕ). i ∷ l) (climb_same F (λ f. []) (λ r l. F.parent r ∷ l) (inode_of F v) (found n ids spots) n i (λ j m. sym (rows.counts j)))
    ∙ ap (λ (k : ℕ). chain_within F (inode_of F v) k i) (rows_number F v.inodes n ids spots rows within)
