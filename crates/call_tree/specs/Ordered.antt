-- The inodes of a table, put in order, are those of the volume in order.
use Rattle.std.specs.Prelude.{ℕ, ◌<◌, ◌≡◌, length, get_or}
use Rattle.std.proofs.Common.{sym, ap, ◌∙◌, arith, take_all, ext_get_or}
use Rattle.std.proofs.Math.Option.{some}
use mathlib.Core.List.{List, map, Memᴰ}
use Rattle.std.proofs.lemmas.List.{length-map}
use Rattle.format.specs.Bytes.{Bytes}
use Rattle.volume.specs.Lists.{sort}
use Rattle.volume.specs.Counting.{Volume, inode_of, inode_ids}
use Rattle.volume.specs.Listing.{name_of, comes_before}
use Rattle.volume_laws.specs.Lists.{mem_place, get_d_map}
use Rattle.volume_laws.specs.Counting.{counting_mem}
use Rattle.volume_laws.specs.Sort.{sort_mem, sort_cong, sort_map}
use Rattle.record_places.specs.Place.{by_place}
use Rattle.table_rows.specs.Rows.{RowsOf}
use Rattle.table_rows.specs.Laws.{row_counts}
use Rattle.inode_order.specs.Order.{place_before}

module _ (image : Bytes) (v : Volume ℕ) (ids spots : List ℕ) (pairs : length spots ≡ length ids) (rows : RowsOf (by_place image) v.inodes ids spots) where
  -- each row holds the inode that counts for its id
  row_inode : (k : ℕ) → k < length ids → inode_of (by_place image) v (get_or ids k 0) ≡ some (get_or spots k 0)
  row_inode = row_counts (by_place image) v.inodes (length ids) ids spots rows (omega arith)

  row_id : (k : ℕ) → k < length ids → (by_place image).id (get_or spots k 0) ≡ get_or ids k 0
  row_id k h = (counting_mem (by_place image) v.inodes (get_or ids k 0) (get_or spots k 0) (row_inode k h)).1

  pub spot_counts : (p : ℕ) → Memᴰ p spots → inode_of (by_place image) v ((by_place image).id p) ≡ some p
  spot_counts p m =
      let k = mem_place spots 0 m in
      let h : k.0 < length ids = omega (arith, k.1) in
      rw (← k.2, row_id k.0 h) (row_inode k.0 h)

  -- the ids of the spots are those of the table
  spot_ids : map (by_place image).id spots ≡ inode_ids (by_place image) v
  spot_ids =
      ext_get_or 0 (map (by_place image).id spots) ids (length-map spots (by_place image).id ∙ pairs) (λ k h. let b : k < length ids = omega (arith, length-map spots (by_place image).id) in get_d_map (by_place image).id spots k 0 0 (omega arith) ∙ row_id k b)
      ∙ sym (take_all (length ids) ids (omega arith)) ∙ rows.ids_are

  alike : (p q : ℕ) → Memᴰ p spots → Memᴰ q spots → place_before image p q ≡ comes_before (by_place image) v ((by_place image).id p) ((by_place image).id q)
  unfolding place_before comes_before name_of
  alike p q m n = rw (place_before, comes_before, name_of, spot_counts p m, spot_counts q n)

  pub ordered : map (by_place image).id (sort (place_before image) spots) ≡ sort (comes_before (by_place image) v) (inode_ids (by_place image) v)
  ordered =
      ap (map (by_place image).id) (sort_cong (place_before image) (λ p q. comes_before (by_place image) v ((by_place image).id p) ((by_place image).id q)) spots alike)
      ∙ sort_map (by_place image).id (comes_before (by_place image) v) spots
      ∙ ap (sort (comes_before (by_place image) v)) spot_ids

  pub ordered_counts : (p : ℕ) → Memᴰ p (sort (place_before image) spots) → inode_of (by_place image) v ((by_place image).id p) ≡ some p
  ordered_counts p m = spot_counts p (sort_mem (place_before image) spots m)
