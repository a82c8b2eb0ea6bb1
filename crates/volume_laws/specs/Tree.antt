-- Directories and lookup: they turn only on who is whose live child.
use Rattle.std.specs.Prelude.{◌≡◌, Bool, ℕ, T}
use Rattle.std.proofs.Math.Path.{refl}
use Rattle.std.proofs.Math.Bool.{true, false}
use mathlib.Core.List.{List, [], ◌∷◌, ◌++◌, Memᴰ}
use Rattle.std.proofs.Math.Option.{some}
use Rattle.format.specs.Bytes.{Bytes}
use Rattle.format.specs.Ids.{is_directory_id}
use Rattle.volume.specs.Lists.{same, has, Only, nobody, several, one, only}
use Rattle.volume.specs.View.{View}
use Rattle.volume.specs.Counting.{Volume, inode_of, inode_ids}
use Rattle.volume.specs.Fate.{live, is_live, fate_of}
use Rattle.volume.specs.Tree.{Found, found, absent, onward, is_entry, is_child, children, walk, lookup_names}
use Rattle.volume_laws.specs.Tests.{and_T, T_and, eqb_self, has_some}
use Rattle.volume_laws.specs.Lists.{keep_mem, mem_keep, same_refl}
use Rattle.volume_laws.specs.Once.{alike_only, alike_keep}
use Rattle.volume_laws.specs.Counting.{ids_of_lem}

-- goes on with a walk from what was found
abbrev pub and_then : Found → (ℕ → Found) → Found
and_then (found i) next = next i
and_then (absent n) next = absent n

module _ {A : Type 0} (F : View A) where
  -- a child is one of the inode ids
  pub child_there : (v : Volume A) (d : ℕ) (n : Bytes) (i : ℕ) → T (is_child F v d n i) → Memᴰ i (inode_ids F v)
  unfolding is_child
  child_there v d n i t =
      let s = has_some (is_entry F d n) (inode_of F v i) (and_T (has (is_entry F d n) (inode_of F v i)) (is_live (fate_of F v i)) t).0 in
      (ids_of_lem F v.inodes).each i s.0 s.1

  -- the children are those that pass the test
  pub mem_children : (v : Volume A) (d : ℕ) (n : Bytes) (i : ℕ) → T (is_child F v d n i) → Memᴰ i (children F v d n)
  unfolding children
  mem_children v d n i t = mem_keep (is_child F v d n) (inode_ids F v) (child_there v d n i t) t

  pub children_mem : (v : Volume A) (d : ℕ) (n : Bytes) (i : ℕ) → Memᴰ i (children F v d n) → T (is_child F v d n i)
  unfolding children
  children_mem v d n i m = (keep_mem (is_child F v d n) (inode_ids F v) m).1

  -- a live inode is a child of its parent, of its name
  pub live_child : (v : Volume A) (i : ℕ) (r : A) → inode_of F v i ≡ some r → fate_of F v i ≡ live
      → Memᴰ i (children F v (F.parent r) (F.name r))
  unfolding is_child is_entry
  live_child v i r e l =
      mem_children v (F.parent r) (F.name r) i
      (rw (is_child, e, l, is_entry, eqb_self (F.parent r)) (T_and (same (F.name r) (F.name r)) true (same_refl (F.name r)) tt))

  -- a walk over names in two parts
  pub walk_append : (v : Volume A) (d : ℕ) (ns ms : List Bytes) → walk F v d (ns ++ ms) ≡ and_then (walk F v d ns) (λ i. walk F v i ms)
  unfolding walk
  walk_append v d [] ms = refl
  walk_append v d (n ∷ ns) ms = go (is_directory_id d) (only (children F v d n)) (λ i. walk_append v i ns ms)
    where
      go : (b : Bool) (o : Only ℕ) → ((i : ℕ) → walk F v i (ns ++ ms) ≡ and_then (walk F v i ns) (λ i. walk F v i ms))
          → onward b o (λ i. walk F v i (ns ++ ms)) ≡ and_then (onward b o (λ i. walk F v i ns)) (λ i. walk F v i ms)
      go false o ih = refl
      go true nobody ih = refl
      go true several ih = refl
      go true (one i) ih = ih i

  pub lookup_append : (v : Volume A) (ns ms : List Bytes) → lookup_names F v (ns ++ ms) ≡ and_then (lookup_names F v ns) (λ i. walk F v i ms)
  unfolding lookup_names
  lookup_append v ns ms = walk_append v _ ns ms

  -- Two volumes
  module _ (v w : Volume A) where
    -- the one child of a name
    pub only_same : (d : ℕ) (n : Bytes) → ((i : ℕ) → is_child F w d n i ≡ is_child F v d n i)
        → only (children F w d n) ≡ only (children F v d n)
    unfolding children
    only_same d n h = alike_only _ _
        (alike_keep (is_child F w d n) (is_child F v d n) (inode_ids F w) (inode_ids F v)
        (ids_of_lem F w.inodes).nodup (ids_of_lem F v.inodes).nodup h (child_there w d n) (child_there v d n))

    -- what is looked up turns only on who is whose live child
    pub walk_same : ((d : ℕ) (n : Bytes) (i : ℕ) → is_child F w d n i ≡ is_child F v d n i)
        → (d : ℕ) (ns : List Bytes) → walk F w d ns ≡ walk F v d ns
    unfolding walk
    walk_same h d [] = refl
    walk_same h d (n ∷ ns) = rw (only_same d n (h d n)) (go (is_directory_id d) (only (children F v d n)) (λ i. walk_same h i ns))
      where
        go : (b : Bool) (o : Only ℕ) → ((i : ℕ) → walk F w i ns ≡ walk F v i ns)
            → onward b o (λ i. walk F w i ns) ≡ onward b o (λ i. walk F v i ns)
        go false o ih = refl
        go true nobody ih = refl
        go true several ih = refl
        go true (one i) ih = ih i

    pub lookup_same : ((d : ℕ) (n : Bytes) (i : ℕ) → is_child F w d n i ≡ is_child F v d n i)
        → (ns : List Bytes) → lookup_names F w ns ≡ lookup_names F v ns
    unfolding lookup_names
    lookup_same h ns = walk_same h _ ns
