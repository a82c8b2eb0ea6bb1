-- A moved inode in a volume: it and what lies below it are found by the new names in place of the old ones, and all else is as it was.
use Rattle.std.specs.Prelude.{ℕ, ◌≡◌, ◌≢◌, true, false, length}
use mathlib.Core.List.{List, [], ◌∷◌, ◌++◌, Memᴰ}
use Rattle.std.proofs.Math.Dec.{T}
use Rattle.format.specs.Bytes.{Bytes}
use Rattle.format.specs.Ids.{root_id, is_directory_id}
use Rattle.volume.specs.Lists.{nobody, one, only}
use Rattle.volume.specs.View.{View}
use Rattle.volume.specs.Counting.{Volume, inode_ids}
use Rattle.volume.specs.Fate.{live, fate_of, live_ids, lineage, names_of}
use Rattle.volume.specs.Tree.{found, absent, is_child, children, lookup_names}
use Rattle.volume_laws.specs.Sound.{Sound}
use Rattle.demand2.specs.Newer.{Newer}

-- ---- the move

-- What is asked: w is v and a newer record r of a live inode other than the root.
pub record Moves {A : Type 0} (F : View A) (v w : Volume A) (r : A) : Type 0 where
  pub newer : Newer F v w r
  pub sound : Sound F v
  pub lived : fate_of F v (F.id r) ≡ live
  pub no_root_lem : F.id r ≢ root_id
  -- its new parent is a live directory, neither the inode nor below it
  pub directory : is_directory_id (F.parent r) ≡ true
  pub above : fate_of F v (F.parent r) ≡ live
  pub outside : ¬ Memᴰ (F.id r) (lineage F v (F.parent r))
  -- in which no live inode has its new name
  pub free : (j : ℕ) → is_child F v (F.parent r) (F.name r) j ≡ false
  -- and no other live inode had its old parent and name
  pub alone : (d : ℕ) (n : Bytes) → T (is_child F v d n (F.id r)) → only (children F v d n) ≡ one (F.id r)

-- What it makes of the volume v: the inode i is moved to the name n below the directory d. An inode is the moved one or below it when that one is
-- in its lineage.
pub record InodeMoved {A : Type 0} (F : View A) (v w : Volume A) (i d : ℕ) (n : Bytes) : Type 0 where
  -- nothing dies and nothing comes to life
  pub fates : (j : ℕ) → fate_of F w j ≡ fate_of F v j
  -- there are as many inodes, and as many live ones
  pub ids : length (inode_ids F w) ≡ length (inode_ids F v)
  pub live_ones : length (live_ids F w) ≡ length (live_ids F v)
  -- what is at or below it is so still, and nothing else
  pub below : (j : ℕ) → Memᴰ i (lineage F v j) → Memᴰ i (lineage F w j)
  pub was_below : (j : ℕ) → Memᴰ i (lineage F w j) → Memᴰ i (lineage F v j)
  -- what is not keeps its ancestors and its names
  pub lineages : (j : ℕ) → ¬ Memᴰ i (lineage F v j) → lineage F w j ≡ lineage F v j
  pub names : (j : ℕ) → ¬ Memᴰ i (lineage F v j) → names_of F w j ≡ names_of F v j
  -- it has the ancestors and the names of its new parent, and then its own
  pub own_lineage : lineage F w i ≡ i ∷ lineage F v d
  pub own_names : names_of F w i ≡ names_of F v d ++ (n ∷ [])
  -- what is at or below it has, from there on, the ancestors and the names that it had
  pub below_lineage : (j : ℕ) → Memᴰ i (lineage F v j)
      → (l : List ℕ) × (lineage F v j ≡ l ++ lineage F v i) × (lineage F w j ≡ l ++ lineage F w i)
  pub below_names : (j : ℕ) → Memᴰ i (lineage F v j)
      → (ns : List Bytes) × (names_of F v j ≡ names_of F v i ++ ns) × (names_of F w j ≡ names_of F w i ++ ns)
  -- its new name leads to it, its old one to nobody, and every other to whom it led, also where several have it
  pub new_entry : only (children F w d n) ≡ one i
  pub old_entry : (x : ℕ) (m : Bytes) → T (is_child F v x m i) → only (children F w x m) ≡ nobody
  pub other_entries : (x : ℕ) (m : Bytes) → ¬ ((x ≡ d) × (m ≡ n)) → ¬ T (is_child F v x m i) → only (children F w x m) ≡ only (children F v x m)
  -- what goes on from its new names is answered as what went on from its old ones was
  pub at_new : (ns ms rest : List Bytes) → lookup_names F v ns ≡ found d → lookup_names F v ms ≡ found i
      → lookup_names F w (ns ++ (n ∷ rest)) ≡ lookup_names F v (ms ++ rest)
  -- and what goes on from its old ones is not found
  pub at_old : (ms rest : List Bytes) → lookup_names F v ms ≡ found i → lookup_names F w (ms ++ rest) ≡ absent 9
  -- all else is answered as before
  pub elsewhere : (ns : List Bytes) → ((ms rest : List Bytes) → lookup_names F v ms ≡ found d → ns ≢ ms ++ (n ∷ rest))
      → ((ms rest : List Bytes) → lookup_names F v ms ≡ found i → ns ≢ ms ++ rest) → lookup_names F w ns ≡ lookup_names F v ns
  -- and so what was found and is not at or below it is found by the names by which it was
  pub stays : (ns : List Bytes) (j : ℕ) → lookup_names F v ns ≡ found j → ¬ Memᴰ i (lineage F v j) → lookup_names F w ns ≡ found j
