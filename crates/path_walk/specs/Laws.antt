-- The rows of a table of inodes tell of directories what its volume tells; and a path is walked a name at a time.
use Rattle.std.specs.Prelude.{ℕ, ◌+◌, ◌-◌, ◌≤◌, ◌<◌, ◌≡◌, ◌≢◌, Bool, ◌&&◌, length, get_or, take, drop}
use Rattle.std.proofs.Math.Path.{refl}
use Rattle.std.proofs.Common.{sym, ap, ◌∙◌, arith}
use Rattle.std.proofs.Math.Bool.{true, false}
use mathlib.Core.List.{List, [], ◌∷◌}
use Rattle.std.proofs.Math.Seq.{take-length}
use borrow.Author.Tests.{eq-eqb, ne_eqb}
use Rattle.format.specs.Bytes.{Bytes, byte_at}
use Rattle.format.specs.Ids.{is_directory_id}
use Rattle.volume.specs.Lists.{keep, same, Only, nobody, several, one, only}
use Rattle.volume.specs.View.{View}
use Rattle.volume.specs.Counting.{Volume}
use Rattle.volume.specs.Fate.{is_live, fate_of}
use Rattle.volume.specs.Tree.{Found, found, absent, onward, is_entry, is_child, children, walk, lookup_names}
use Rattle.volume_laws.specs.Tree.{and_then}
use Rattle.record_places.specs.Place.{block_at, size_at, by_place}
use Rattle.record_places.specs.Laws.{size_inode}
use Rattle.table_rows.specs.Laws.{row_counts}
use Rattle.table_rows.specs.Rows.{InodeTable}
use Rattle.inode_fate.specs.Fates.{live_by}
use Rattle.inode_fate.specs.Laws.{fate_rows}
use Rattle.file_blocks.specs.Blocks.{first_of}
use Rattle.file_blocks.specs.Rows.{kept_none, kept_some}
use Rattle.path_names.specs.Names.{any_names, first_name, rest_names}
use Rattle.path_names.specs.Walking.{names_none, names_some}
use Rattle.path_walk.specs.Resolved.{InodesOf, step_of}

-- ---- one inode

-- the name of an inode, by the length that its header tells
pub name_at : (image : Bytes) (p : ℕ) → block_at image p ≡ false → (by_place image).name p ≡ take (byte_at image (p + 17)) (drop (p + 20) image)
name_at image p e = let z : size_at image p - 20 ≡ byte_at image (p + 17) = omega (arith, size_inode image p e) in rw z

module _ (F : View ℕ) (d : ℕ) (n : Bytes) (p : ℕ) where
  pub entry_elsewhere : F.parent p ≢ d → is_entry F d n p ≡ false
  unfolding is_entry
  entry_elsewhere h = rw (is_entry, ne_eqb (F.parent p) d h)

  pub entry_here : F.parent p ≡ d → is_entry F d n p ≡ same (F.name p) n
  unfolding is_entry
  entry_here e = rw (is_entry, eq-eqb (F.parent p) d e)

module _ {image : Bytes} {ids spots : List ℕ} (t : InodeTable image ids spots) (v : Volume ℕ) (rows : InodesOf image ids spots v) where
  pub live_row : (i : ℕ) → live_by (by_place image) (length ids) ids spots i ≡ is_live (fate_of (by_place image) v i)
  live_row i = ap is_live (fate_rows (by_place image) v (length ids) ids spots rows (omega arith) i)

  -- whether the inode of a row is a child
  module _ (d : ℕ) (n : Bytes) (k : ℕ) (h : k < length ids) where
    child_row : is_child (by_place image) v d n (get_or ids k 0)
        ≡ (is_entry (by_place image) d n (get_or spots k 0) && is_live (fate_of (by_place image) v (get_or ids k 0)))
    unfolding is_child
    child_row = rw (is_child, row_counts (by_place image) v.inodes (length ids) ids spots rows (omega arith) k h)

    pub child_other : is_entry (by_place image) d n (get_or spots k 0) ≡ false → is_child (by_place image) v d n (get_or ids k 0) ≡ false
    child_other e = child_row ∙ rw e

    pub child_live : is_entry (by_place image) d n (get_or spots k 0) ≡ true
        → is_child (by_place image) v d n (get_or ids k 0) ≡ is_live (fate_of (by_place image) v (get_or ids k 0))
    child_live e = child_row ∙ rw e

  -- ---- the children of a name, by what the searches for one found

  module _ (d : ℕ) (n : Bytes) where
    abbrev test : ℕ → Bool
    test = is_child (by_place image) v d n

    children_rows : children (by_place image) v d n ≡ keep test ids
    unfolding children
    children_rows = rw (← rows.ids_are, take-length ids)

    module _ (a : ℕ) (first : a ≡ 0 + first_of test (drop 0 ids)) where
      pub no_child : a ≡ length ids → nobody ≡ only (children (by_place image) v d n)
      unfolding only
      no_child e =
          let k : keep test ids ≡ [] = kept_none test ids 0 (omega arith) a first (omega arith) in
          rw (children_rows, k)

      -- the first child and those after it
      from_first : a < length ids → children (by_place image) v d n ≡ get_or ids a 0 ∷ keep test (drop (a + 1) ids)
      from_first h = children_rows ∙ kept_some test ids 0 (omega arith) a first h

      module _ (h : a < length ids) (b : ℕ) (second : b ≡ a + 1 + first_of test (drop (a + 1) ids)) where
        pub more_children : b < length ids → several ≡ only (children (by_place image) v d n)
        unfolding only
        more_children g = rw (from_first h, kept_some test ids (a + 1) (omega arith) b second g)

        pub one_child : length ids ≤ b → one (get_or ids a 0) ≡ only (children (by_place image) v d n)
        unfolding only
        one_child g = rw (from_first h, kept_none test ids (a + 1) (omega arith) b second g)

-- ---- a walk

module _ (F : View ℕ) (v : Volume ℕ) (d : ℕ) where
  -- one step: below a file, and in a directory
  pub step_file : (n : Bytes) → is_directory_id d ≡ false → absent 11 ≡ step_of F v d n
  step_file n e = rw e

  pub step_child : (n : Bytes) → is_directory_id d ≡ true → (o : Only ℕ) → o ≡ only (children F v d n) → onward true o found ≡ step_of F v d n
  step_child n e o q = rw (e, q)

  -- no name is left
  pub walk_ends : (ns : List Bytes) → any_names ns ≡ false → found d ≡ walk F v d ns
  unfolding walk
  walk_ends ns e = rw (names_none ns e)

  -- a name is left: s is the step by it
  module _ (ns : List Bytes) (any : any_names ns ≡ true) (n : Bytes) (first : n ≡ first_name ns) (s : Found) (is : s ≡ step_of F v d n) where
    walk_step : walk F v d ns ≡ and_then s (λ i. walk F v i (rest_names ns))
    unfolding walk
    walk_step = rw (is, first) (ap (walk F v d) (names_some ns any) ∙ go (is_directory_id d) (only (children F v d (first_name ns))))
      where
        go : (b : Bool) (o : Only ℕ) → onward b o (λ i. walk F v i (rest_names ns)) ≡ and_then (onward b o found) (λ i. walk F v i (rest_names ns))
        go false o = refl
        go true nobody = refl
        go true several = refl
        go true (one i) = refl

    pub walk_fails : (k : ℕ) → s ≡ absent k → s ≡ walk F v d ns
    walk_fails k e = e ∙ sym (walk_step ∙ rw e)

    pub walk_goes_on : (i : ℕ) → s ≡ found i → (ms : List Bytes) → ms ≡ rest_names ns → walk F v i ms ≡ walk F v d ns
    walk_goes_on i e ms r = sym (walk_step ∙ rw (e, r))

pub walk_starts : (F : View ℕ) (v : Volume ℕ) (ns ms : List Bytes) → ns ≡ ms → walk F v 0 ns ≡ lookup_names F v ms
unfolding lookup_names
walk_starts F v ns ms e = rw e
