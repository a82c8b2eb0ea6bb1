-- A new inode in a volume: it is live and found at its path, and all else is as it was.
use Rattle.std.specs.Prelude.{ℕ, ◌≢◌, cond}
use Rattle.std.proofs.Math.Path.{◌≡◌}
use Rattle.std.proofs.Math.Option.{some}
use mathlib.Core.List.{List, [], ◌∷◌, ◌++◌, Memᴰ}
use Rattle.format.specs.Bytes.{Bytes}
use Rattle.format.specs.Ids.{is_directory_id}
use Rattle.volume.specs.View.{View}
use Rattle.volume.specs.Counting.{Volume, inode_of}
use Rattle.volume.specs.Fate.{live, fate_of}
use Rattle.volume.specs.Tree.{found, absent, walk, lookup_names}

-- no inode of the list names r as parent
abbrev pub NamesNo : {A : Type 0} → View A → List A → A → Type 0
NamesNo {A} F l r = (s : A) → Memᴰ s l → F.parent s ≢ F.id r

-- what a new inode r makes of the volume v
pub record InodeNew {A : Type 0} (F : View A) (v w : Volume A) (r : A) : Type 0 where
  pub lives : fate_of F w (F.id r) ≡ live
  pub found_there : (ns : List Bytes) → lookup_names F v ns ≡ found (F.parent r) → lookup_names F w (ns ++ (F.name r ∷ [])) ≡ found (F.id r)
  -- only 9 may change
  pub lookups : (ns : List Bytes) → lookup_names F v ns ≢ absent 9 → lookup_names F w ns ≡ lookup_names F v ns
  -- and only below the new name
  pub elsewhere : (ns : List Bytes)
      → ((ms rest : List Bytes) → lookup_names F v ms ≡ found (F.parent r) → ns ≢ ms ++ (F.name r ∷ rest))
      → lookup_names F w ns ≡ lookup_names F v ns
  -- where nothing is yet
  pub below : (n : Bytes) (ns : List Bytes) → walk F w (F.id r) (n ∷ ns) ≡ absent (cond (is_directory_id (F.id r)) 9 11)
  -- it counts, and of every other inode the record that did
  pub counts : inode_of F w (F.id r) ≡ some r
  pub inodes : (j : ℕ) → j ≢ F.id r → inode_of F w j ≡ inode_of F v j
  pub fates : (j : ℕ) → j ≢ F.id r → fate_of F w j ≡ fate_of F v j
