-- The chain of a file's blocks: each of them counts, and none stands in it twice.
use Rattle.std.proofs.Math.Path.{◌≡◌}
use Rattle.std.specs.Prelude.{ℕ}
use Rattle.std.proofs.Math.Option.{some}
use mathlib.Core.List.{List, map, Memᴰ}
use Rattle.format.specs.Ids.{NONE}
use Rattle.std.proofs.Math.Option.{Option, none}
use Rattle.volume.specs.View.{View}
use Rattle.volume.specs.Counting.{Volume, block_of}
use Rattle.volume_laws.specs.Once.{Nodup}

-- c says which record counts for an id: NONE is no block
abbrev pub NoBlock : {A : Type 0} → (ℕ → Option A) → Type 0
NoBlock c = c NONE ≡ none

-- the blocks of a file
pub record FileBlocks {A : Type 0} (F : View A) (v : Volume A) (f : ℕ) (bs : List A) : Type 0 where
  -- each counts and names the file as owner
  pub counts : (r : A) → Memᴰ r bs → block_of F v (F.id r) ≡ some r
  pub owner : (r : A) → Memᴰ r bs → F.owner r ≡ f
  -- none stands there twice
  pub once : Nodup (map F.id bs)
