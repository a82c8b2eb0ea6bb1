-- What the tables of a mounted volume tell of the volume that the calls speak of: places for bytes, and parts for slices.
use Rattle.std.specs.Prelude.{ℕ, ◌+◌, ◌-◌, ◌≤◌, ◌<◌, ◌≡◌, List, length, take, drop}
use Rattle.std.proofs.Common.{sym, ap, subst, ◌∙◌, arith, length-take, get_or-take}
use Rattle.format.specs.Bytes.{Bytes}
use Rattle.volume.specs.View.{by_bytes}
use Rattle.volume.specs.Counting.{inode_of, inode_ids, volume_of}
use Rattle.volume.specs.Fate.{lineage}
use Rattle.volume.specs.Tree.{children, lookup_names}
use Rattle.volume_laws.specs.Map.{over, over_volume, lookup_names_map, children_map, inode_of_map, inode_ids_map, lineage_map}
use Rattle.record_places.specs.Place.{by_place, bytes_at, AllLie}
use Rattle.record_places.specs.Laws.{place_views}
use Rattle.calls.specs.Areas.{most_areas, file_areas}
use Rattle.calls.specs.Mount.{most_records, volume}
use Rattle.calls.specs.Storing.{named_ids}
use Rattle.calls.specs.declared.Descriptor.{Descriptor}
use Rattle.area_list.specs.Described.{described}
use Rattle.area_pass.specs.Listing.{AreasFit}
use Rattle.area_pass.specs.Bridge.{placed_volume, volume_places}
use Rattle.area_pass.specs.Rows.{spans_at}
use Rattle.table_rows.specs.Parts.{part_long, lent}
use Rattle.table_rows.specs.Laws.{rows_number}
use Rattle.mount_state.specs.State.{inode_ids_in, inode_spots_in, inode_ids_at, Safe, Holds, SafePlaces, HoldsPlaces}
use Rattle.mount_state.specs.declared.Mounted.{Mounted}

-- the volume of the calls, by the places of its records
module _ (image : Bytes) (ds : List Descriptor) where
  pub names_are : (ns : List Bytes) → lookup_names (by_place image) (placed_volume image ds) ns ≡ lookup_names by_bytes (volume image ds) ns
  names_are ns = sym (rw (volume_places image ds) (lookup_names_map (by_place image) by_bytes (bytes_at image) (place_views image) (placed_volume image ds) ns))

  pub children_are : (d : ℕ) (n : Bytes) → children (by_place image) (placed_volume image ds) d n ≡ children by_bytes (volume image ds) d n
  children_are d n = sym (rw (volume_places image ds) (children_map (by_place image) by_bytes (bytes_at image) (place_views image) (placed_volume image ds) d n))

  pub inode_is : (i : ℕ) → inode_of by_bytes (volume image ds) i ≡ over (bytes_at image) (inode_of (by_place image) (placed_volume image ds) i)
  inode_is i = rw (volume_places image ds) (inode_of_map (by_place image) by_bytes (bytes_at image) (place_views image) (placed_volume image ds) i)

  pub lineage_is : (i : ℕ) → lineage (by_place image) (placed_volume image ds) i ≡ lineage by_bytes (volume image ds) i
  lineage_is i = sym (rw (volume_places image ds) (lineage_map (by_place image) by_bytes (bytes_at image) (place_views image) (placed_volume image ds) i))

  pub ids_are : inode_ids (by_place image) (placed_volume image ds) ≡ inode_ids by_bytes (volume image ds)
  ids_are = sym (rw (volume_places image ds) (inode_ids_map (by_place image) by_bytes (bytes_at image) (place_views image) (placed_volume image ds)))

-- ---- the parts, as the checker states what `&tables[a..a + n]` lends

module _ {image : Bytes} {m : Mounted} {t : List ℕ} (s : Safe image m t) where
  pub fit_lent : AreasFit image (take m.files t) (take (spans_at + m.files - spans_at) (drop spans_at t))
  fit_lent = subst (AreasFit image (take m.files t)) (sym (lent spans_at m.files t)) s.fit

  pub starts_few : length (take m.files t) ≤ most_areas
  starts_few = omega (arith, s.files_few, length-take m.files t)

module _ {image : Bytes} {ds : List Descriptor} {m : Mounted} {t : List ℕ} (h : Holds image ds m t) where
  pub files_lent : described (take m.files t) (take (spans_at + m.files - spans_at) (drop spans_at t)) ≡ file_areas image ds
  files_lent = ap (described (take m.files t)) (lent spans_at m.files t) ∙ h.files

-- ---- how many inodes and blocks there are

module _ {image : Bytes} {ds : List Descriptor} {m : Mounted} {t : List ℕ} (s : Safe image m t) (h : Holds image ds m t) where
  pub inode_rows_long : length (inode_ids_in m t) ≡ m.inodes
  inode_rows_long = part_long inode_ids_at m.inodes t (omega (arith, s.inodes_few, s.long))

  pub inodes_number : m.inodes ≡ length (inode_ids by_bytes (volume image ds))
  inodes_number =
      sym inode_rows_long
      ∙ rows_number (by_place image) (placed_volume image ds).inodes (length (inode_ids_in m t)) (inode_ids_in m t) (inode_spots_in m t) h.inodes (omega arith)
      ∙ ap length (ids_are image ds)

-- ---- the places of all records, as `&places[..records]` lends them

pub places_lent : {image : Bytes} {m : Mounted} {ps : List ℕ} → SafePlaces image m ps
    → AllLie image (take m.records ps) (length (take m.records ps)) × (length (take m.records ps) ≤ most_records)
places_lent {image} {m} {ps} s =
    let e = length-take m.records ps in (
      λ i h. let k : i < m.records = omega arith in rw (get_or-take m.records ps i 0 k) (s.lie i (omega arith)),
      omega (arith, s.records_few),
    )

-- what they name is what the volume names
pub names_lent : (image : Bytes) (ds : List Descriptor) (m : Mounted) (ps : List ℕ) → HoldsPlaces image ds m ps
    → named_ids (over_volume (bytes_at image) (volume_of (by_place image) (take m.records ps))) ≡ named_ids (volume image ds)
names_lent image ds m ps h = rw h (ap named_ids (sym (volume_places image ds)))
