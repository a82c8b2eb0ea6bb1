-- Live, dead and orphaned inodes. Document 01, "What counts".
use Rattle.std.specs.Prelude.{ℕ, zero, suc, ◌⊎◌, List, [], ◌∷◌, ◌++◌, Bool, true, false, cond, length, eqb}
use Rattle.std.proofs.Common.{inl, inr}
use Rattle.std.proofs.Math.Option.{Option, none, some}
use Rattle.format.specs.Bytes.{Bytes}
use Rattle.format.specs.Ids.{NONE, root_id}
use Rattle.volume.specs.Lists.{keep}
use Rattle.volume.specs.View.{View}
use Rattle.volume.specs.Counting.{Volume, inode_of, inode_ids}

pub data Fate : Type 0 where
  live dead orphan : Fate

abbrev pub is_live : Fate → Bool
is_live live = true
is_live dead = false
is_live orphan = false

abbrev pub is_dead : Fate → Bool
is_dead live = false
is_dead dead = true
is_dead orphan = false

module _ {A : Type 0} (F : View A) where
  -- what the chain of parents does at an id, by the inode that counts there: it ends with a fate, or goes on above that inode
  unfoldable pub ascend : Option A → Fate ⊎ A
  ascend none = inl orphan
  ascend (some r) = cond (eqb (F.id r) root_id) (inl live) (cond (eqb (F.parent r) NONE) (inl dead) (inr r))

  -- a value gathered along the chain from an id, over at most k inodes; a chain that still goes on then loops
  unfoldable pub climb : {X : Type 0} → (Fate → X) → (A → X → X) → (ℕ → Option A) → ℕ → ℕ → X
  climb stop on c zero i = stop orphan
  climb stop on c (suc k) i = elim (ascend (c i)) [ inl f ↦ stop f | inr r ↦ on r (climb stop on c k (F.parent r)) ]

  -- "live when its counting record and those of its parents lead to the root with no deletion record and no missing
  -- or looping parent. It is dead when that chain meets a deletion record, its own included. Otherwise it is an orphan"
  abbrev pub fate_within : (ℕ → Option A) → ℕ → ℕ → Fate
  fate_within = climb (λ f. f) (λ r f. f)

  -- no chain without a loop has more inodes than there are inode ids
  abbrev pub longest_chain : Volume A → ℕ
  longest_chain v = length (inode_ids F v)

  unfoldable pub fate_of : Volume A → ℕ → Fate
  fate_of v i = fate_within (inode_of F v) (longest_chain v) i

  -- "A block is dead when its owner is"; of a block that has several versions the counting one is asked
  unfoldable pub block_dead : Volume A → A → Bool
  block_dead v b = is_dead (fate_of v (F.owner b))

  unfoldable pub live_ids : Volume A → List ℕ
  live_ids v = keep (λ i. is_live (fate_of v i)) (inode_ids F v)

  -- the ids of an inode and of its ancestors, up to the root: "Ancestors follow the counting records"
  unfoldable pub lineage : Volume A → ℕ → List ℕ
  lineage v i = i ∷ climb (λ f. []) (λ r l. F.parent r ∷ l) (inode_of F v) (longest_chain v) i

  -- the names of its ancestors below the root, and then its own
  unfoldable pub names_of : Volume A → ℕ → List Bytes
  names_of v i = climb (λ f. []) (λ r l. l ++ (F.name r ∷ [])) (inode_of F v) (longest_chain v) i
