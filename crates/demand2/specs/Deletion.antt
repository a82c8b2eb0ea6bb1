-- A deletion record in a volume: the inode and all below it are dead, and all else is as it was.
use Rattle.std.specs.Prelude.{ℕ, ◌≡◌, ◌⊎◌, ◌≢◌}
use mathlib.Core.List.{List, ◌++◌, Memᴰ}
use Rattle.std.proofs.Math.Dec.{T}
use Rattle.format.specs.Bytes.{Bytes}
use Rattle.volume.specs.Lists.{one, only}
use Rattle.volume.specs.View.{View}
use Rattle.volume.specs.Counting.{Volume}
use Rattle.volume.specs.Fate.{live, dead, fate_of, lineage}
use Rattle.volume.specs.Tree.{found, absent, is_child, children, lookup_names}

-- what the deletion record r makes of the volume v; the inode is in the lineage of what lies below it
pub record InodeGone {A : Type 0} (F : View A) (v w : Volume A) (r : A) : Type 0 where
  pub below : (j : ℕ) → Memᴰ (F.id r) (lineage F v j) → fate_of F w j ≡ dead
  pub outside : (j : ℕ) → ¬ Memᴰ (F.id r) (lineage F v j) → fate_of F w j ≡ fate_of F v j
  pub no_life : (j : ℕ) → fate_of F w j ≡ live → fate_of F v j ≡ live
  pub unlive : (j : ℕ) → fate_of F v j ≢ live → fate_of F w j ≡ fate_of F v j
  -- what was found and lies below it is found no more, what does not as before
  pub lost : (ns : List Bytes) (j : ℕ) → lookup_names F v ns ≡ found j → Memᴰ (F.id r) (lineage F v j) → lookup_names F w ns ≡ absent 9
  pub stays : (ns : List Bytes) (j : ℕ) → lookup_names F v ns ≡ found j → ¬ Memᴰ (F.id r) (lineage F v j) → lookup_names F w ns ≡ found j
  -- if the inode was the only child of its name, a lookup that does not come by it is answered as before
  pub elsewhere : ((e : ℕ) (n : Bytes) → T (is_child F v e n (F.id r)) → only (children F v e n) ≡ one (F.id r))
      → (ns : List Bytes) → ((ms rest : List Bytes) → lookup_names F v ms ≡ found (F.id r) → ns ≢ ms ++ rest)
      → lookup_names F w ns ≡ lookup_names F v ns
  -- and any other stays, or is answered by 9 now
  pub either : ((e : ℕ) (n : Bytes) → T (is_child F v e n (F.id r)) → only (children F v e n) ≡ one (F.id r))
      → (ns : List Bytes) → (lookup_names F w ns ≡ lookup_names F v ns) ⊎ (lookup_names F w ns ≡ absent 9)
