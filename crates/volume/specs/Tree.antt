-- Directories and lookup. Document 01, "Numbers of refusal" 9 to 11, and "Paths".
use Rattle.std.specs.Prelude.{ℕ, List, [], ◌∷◌, Bool, true, false, ◌&&◌, eqb}
use Rattle.format.specs.Bytes.{Bytes}
use Rattle.format.specs.Ids.{root_id, is_directory_id}
use Rattle.volume.specs.Lists.{keep, same, has, Only, nobody, several, one, only}
use Rattle.volume.specs.View.{View}
use Rattle.volume.specs.Counting.{Volume, inode_of, inode_ids}
use Rattle.volume.specs.Fate.{is_live, fate_of}

-- "A lookup finds an inode id and kind, or it is absent": the id, which tells the kind, or absent with the number of refusal
pub data Found : Type 0 where
  found : ℕ → Found
  absent : ℕ → Found

-- a name looked for in a directory: "a file where a directory is needed" is 11, "no such child" 9, "two or more live children of that name" 10
abbrev pub onward : Bool → Only ℕ → (ℕ → Found) → Found
onward false o next = absent 11
onward true nobody next = absent 9
onward true several next = absent 10
onward true (one i) next = next i

module _ {A : Type 0} (F : View A) where
  unfoldable pub is_entry : ℕ → Bytes → A → Bool
  is_entry d n r = eqb (F.parent r) d && same (F.name r) n

  -- i is a live child of the directory d, of the name n
  unfoldable pub is_child : Volume A → ℕ → Bytes → ℕ → Bool
  is_child v d n i = has (is_entry d n) (inode_of F v i) && is_live (fate_of F v i)

  unfoldable pub children : Volume A → ℕ → Bytes → List ℕ
  children v d n = keep (is_child v d n) (inode_ids F v)

  -- "Where a path is walked, the first failing step decides"
  unfoldable pub walk : Volume A → ℕ → List Bytes → Found
  walk v d [] = found d
  walk v d (n ∷ ns) = onward (is_directory_id d) (only (children v d n)) (λ i. walk v i ns)

  unfoldable pub lookup_names : Volume A → List Bytes → Found
  lookup_names v ns = walk v root_id ns
