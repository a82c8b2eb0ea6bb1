-- A newer record of an inode: what is not at or below it keeps its chain of parents, and what is has its fate.
use Rattle.std.specs.Prelude.{ℕ, ◌≡◌, refl}
use Rattle.std.proofs.Common.{sym, ◌∙◌}
use Rattle.std.proofs.Math.Path.{ap}
use mathlib.Core.List.Memᴰ
use mathlib.Core.List.{List, [], ◌∷◌, ◌++◌, Memᴰ}
use Rattle.volume.specs.View.{View}
use Rattle.volume.specs.Counting.{Volume, inode_of, inode_ids}
use Rattle.volume.specs.Fate.{Fate, climb, longest_chain, fate_of, lineage, names_of}
use Rattle.volume_laws.specs.Once.{Alike, alike_length}
use Rattle.volume_laws.specs.Climb.{climb_same, fate_parent}
use Rattle.demand2.specs.Added.{Changed}
use Rattle.demand2.proofs.Added.{added_changed, known_ids}
use Rattle.demand2.specs.Lineage.{below}
use Rattle.demand2.specs.Newer.{Newer}

module _ {A : Type 0} (F : View A) (v w : Volume A) (r : A) (g : Newer F v w r) where
  -- it counts
  pub newer_counts : Changed F (inode_of F v) (inode_of F w) r
  newer_counts = added_changed F v.inodes w.inodes r g.added g.agreed

  -- no id comes and none goes
  pub same_ids : Alike (inode_ids F w) (inode_ids F v)
  same_ids = known_ids F v.inodes w.inodes r g.added g.agreed g.known

  -- the chain of what is not at or below it, by whatever is gathered along it
  outside_climb : {X : Type 0} (stop : Fate → X) (on : A → X → X) (j : ℕ) → ¬ Memᴰ (F.id r) (lineage F v j)
      → climb F stop on (inode_of F w) (longest_chain F w) j ≡ climb F stop on (inode_of F v) (longest_chain F v) j
  unfolding lineage
  outside_climb stop on j n =
      ap (λ k. climb F stop on (inode_of F w) k j) (alike_length (inode_ids F w) (inode_ids F v) same_ids)
      ∙ climb_same F stop on (inode_of F v) (inode_of F w) (longest_chain F v) j (λ x m. newer_counts.others x (λ e. n (Memᴰ.cast (sym e) m)))

  -- its fate
  pub outside_fate : (j : ℕ) → ¬ Memᴰ (F.id r) (lineage F v j) → fate_of F w j ≡ fate_of F v j
  unfolding fate_of
  outside_fate = outside_climb (λ f. f) (λ r f. f)

  -- its lineage
  pub outside_lineage : (j : ℕ) → ¬ Memᴰ (F.id r) (lineage F v j) → lineage F w j ≡ lineage F v j
  unfolding lineage
  outside_lineage j n = ap (λ (l : List ℕ). j ∷ l) (outside_climb (λ f. []) (λ r l. F.parent r ∷ l) j n)

  -- its names
  pub outside_names : (j : ℕ) → ¬ Memᴰ (F.id r) (lineage F v j) → names_of F w j ≡ names_of F v j
  unfolding names_of
  outside_names = outside_climb (λ f. []) (λ r l. l ++ (F.name r ∷ []))

  -- what is at or below it has its fate
  pub below_fate : (j : ℕ) → Memᴰ (F.id r) (lineage F v j) → fate_of F w j ≡ fate_of F w (F.id r)
  below_fate = below F v (F.id r) (λ j. fate_of F w j ≡ fate_of F w (F.id r)) refl
      (λ j s n q h. fate_parent F w j s (rw (newer_counts.others j n) q) ∙ h)
