-- What a path leads to, and the sequence of an inode, by the tables of a mounted volume. Document 01, refusals 8 to 11.
use Rattle.std.specs.Prelude.{Option, None, Some, ℕ, ◌≡◌, true, false, cond, List, length}
use Rattle.std.proofs.Common.{sym, ◌∙◌, eq-eqb}
use Rattle.format.specs.Bytes.{Bytes}
use Rattle.volume.specs.View.{View, by_bytes}
use Rattle.volume.specs.Counting.{Volume, inode_of}
use Rattle.volume.specs.Path.{good_path, path_names}
use Rattle.volume.specs.Tree.{Found, absent, lookup_names}
use Rattle.record_places.specs.Place.{by_place}
use Rattle.record_places.specs.Laws.{place_views}
use Rattle.table_rows.specs.Answer.{meant}
use Rattle.table_rows.specs.Table.{found}
use Rattle.calls.specs.Mount.{volume, mount_number}
use Rattle.calls.specs.Lookup.{resolve}
use Rattle.calls.specs.Rewrite.{sequence_of}
use Rattle.calls.specs.declared.Descriptor.{Descriptor}
use Rattle.area_pass.specs.Bridge.{placed_volume}
use Rattle.table_rows.specs.Rows.{RowsOf}
use Rattle.mount_state.specs.State.{Holds}
use Rattle.mount_state.specs.Bridge.{inode_is}
use Rattle.mount_state.specs.declared.Mounted.{Mounted}
use Rattle.path_find.specs.Below.{not_below}

-- what a path leads to that is not the root
abbrev pub below_root : {A : Type 0} → View A → Volume A → Bytes → Bytes → Found
below_root F v base path = cond (not_below base path) (absent 8) (lookup_names F v (path_names base path))

-- ---- what a path leads to

module _ {image : Bytes} {ds : List Descriptor} {m : Mounted} {t : List ℕ} (h : Holds image ds m t) (base path : Bytes) where
  pub path_bad : good_path base path ≡ false → absent 8 ≡ resolve image ds base path
  unfolding resolve
  path_bad e = rw (eq-eqb (mount_number image ds) 0 h.number, e)

  pub path_good : good_path base path ≡ true → lookup_names by_bytes (volume image ds) (path_names base path) ≡ resolve image ds base path
  unfolding resolve
  path_good e = rw (eq-eqb (mount_number image ds) 0 h.number, e)

-- ---- the sequence of an inode, by its row

module _ (image : Bytes) (ids spots : List ℕ) (i : ℕ) (r : Option ℕ) (e : meant r ≡ found (length ids) ids spots i) where
  module _ (ds : List Descriptor) (rows : RowsOf (by_place image) (placed_volume image ds).inodes ids spots) where
    counts : inode_of (by_place image) (placed_volume image ds) i ≡ meant r
    counts = rows.counts i ∙ sym e

    pub sequence_none : r ≡ None → 0 ≡ sequence_of (inode_of by_bytes (volume image ds) i)
    sequence_none q = rw (inode_is image ds i, counts, q)

    pub sequence_some : (p : ℕ) → r ≡ Some p → (by_place image).sequence p ≡ sequence_of (inode_of by_bytes (volume image ds) i)
    sequence_some p q = rw (inode_is image ds i, counts, q) (sym ((place_views image).sequence p))
