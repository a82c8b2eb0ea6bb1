-- What the code answers of fates. Document 01, "What counts".
use Rattle.std.specs.Prelude.{ℕ, ◌⊎◌, Bool, List, take}
use Rattle.std.proofs.Common.{inl, inr}
use Rattle.volume.specs.Lists.{keep}
use Rattle.volume.specs.View.{View}
use Rattle.volume.specs.Fate.{Fate, live, dead, orphan, is_live, fate_within}
use Rattle.table_rows.specs.Table.{found}
use Rattle.inode_fate.specs.declared.Fate.{Fate as Told}
use Rattle.inode_fate.specs.declared.Fate.TheVariants.{Live, Dead, Orphan}
use Rattle.std.specs.declared.ops.ControlFlow.{ControlFlow}
use Rattle.std.specs.declared.ops.ControlFlow.TheVariants.{Continue, Break}

abbrev pub meaning : Told → Fate
meaning Live = live
meaning Dead = dead
meaning Orphan = orphan

-- what the chain of parents does: its fate, or the parent's id
abbrev pub step_of : ControlFlow Told ℕ → Fate ⊎ ℕ
step_of (Break f) = inl (meaning f)
step_of (Continue i) = inr i

abbrev pub parent_up : View ℕ → Fate ⊎ ℕ → Fate ⊎ ℕ
parent_up F (inl f) = inl f
parent_up F (inr r) = inr (F.parent r)

-- the fate of an id by the first n rows of a table, over at most n inodes: that of the volume whose inodes they are (law `fate_rows`)
abbrev pub fate_by : View ℕ → ℕ → List ℕ → List ℕ → ℕ → Fate
fate_by F n ids spots i = fate_within F (found n ids spots) n i

abbrev pub live_by : View ℕ → ℕ → List ℕ → List ℕ → ℕ → Bool
live_by F n ids spots i = is_live (fate_by F n ids spots i)

-- the ids of the table that are live so: those of the volume (law `live_rows_lem`)
unfoldable pub live_rows : View ℕ → ℕ → List ℕ → List ℕ → List ℕ
live_rows F n ids spots = keep (live_by F n ids spots) (take n ids)
