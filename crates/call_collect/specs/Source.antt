-- The copies of every file area of a list that passes checks 1 to 4 fit into its scratch area.
use Rattle.std.specs.Prelude.{ℕ, ◌+◌, ◌≤◌, ◌<◌, ◌≡◌, true, ◌&&◌, drop, get_or, T}
use Rattle.std.proofs.Math.Path.{ap, subst}
use Rattle.std.proofs.Common.{◌∙◌, arith}
use Rattle.std.proofs.Math.Logic.{inl, inr}
use Rattle.std.proofs.Math.Bool.{not}
use mathlib.Core.List.{List, map, Memᴰ}
use Rattle.std.proofs.Math.ListN.{length, length-take, length-drop}
use Rattle.format.specs.Bytes.{Bytes}
use Rattle.format.specs.AreaHeader.{area_header_size}
use Rattle.format.specs.Record.{record_size}
use Rattle.format_laws.specs.Record.{record_inside}
use Rattle.format_laws.specs.Reading.{records_lawful}
use Rattle.format_laws.specs.Taken.{records_from_lem, from_each}
use Rattle.format.specs.Reading.{Placed}
use Rattle.volume.specs.Lists.{keep}
use Rattle.volume_laws.specs.Tests.{true→T, and_T}
use Rattle.volume_laws.specs.Lists.{keep_mem, mem_keep, get_or_mem}
use Rattle.calls.specs.Areas.{area_end, area_bytes, all_disjoint, file_areas, scratch_areas}
use Rattle.calls.specs.Mount.{records_of}
use Rattle.calls.specs.Collect.{copied_records}
use Rattle.calls.specs.declared.Descriptor.{Descriptor}
use Rattle.collect_laws.proofs.Mounted.{copied_survive}
use Rattle.record_places.specs.Place.{block_at, size_at, bytes_at, by_place}
use Rattle.image_laws.specs.Stores.{joined_bytes}
use Rattle.area_list.specs.Places.{Clear}
use Rattle.area_kinds.specs.Places.{AreasPass, member_fits, file_member, file_scratch_apart, files_disjoint, scratch_longest}
use Rattle.area_pass.specs.Listing.{record_places, places_in}
use Rattle.area_pass.specs.Bridge.{record_places_each, record_bytes_lem, record_lies, placed_volume}
use Rattle.collect_copies.specs.Copied.{Tables, table_of, AllRows, inside, dropped, counts_in, copied, copied_places}
use Rattle.collect_copies.specs.First.{first_mem}
use Rattle.collect_copies.specs.Bridge.{parted, in_area, volume_copies}
use Rattle.record_places.specs.Stays.{bytes_long}
use Rattle.collect_stores.specs.Records.{moved}
use Rattle.collect_stores.specs.Fits.{span, fits, clear_fit}

-- a record that an area is read as ends in it
record_ends : (image : Bytes) (d : Descriptor) (p : ℕ) → Memᴰ p (record_places d.offset (records_of image d)) → p + size_at image p ≤ area_end d
record_ends image d p m =
    let r = record_places_each d.offset p (records_of image d) m in
    let h = ends r.0 r.1 in
    rw r.2 h
  where
    ends : (r : Placed) → Memᴰ r (records_of image d) → d.offset + r.place + size_at image (d.offset + r.place) ≤ area_end d
    ends r k =
        let t = from_each record_size records_lawful (area_bytes image d) area_header_size r (rw (records_from_lem record_size (area_bytes image d)) at k) in
        let rest = drop r.place (area_bytes image d) in
        let a = t.accepted in
        let b = record_inside rest in
        let c = length-drop r.place (area_bytes image d) in
        let e = length-take d.length (drop d.offset image) in
        let f = ap length (record_bytes_lem image d r k ∙ t.is) in
        let g = length-take (record_size rest) rest in
        let l = bytes_long image (d.offset + r.place) (record_lies image d r k) in
        omega arith

module _ (image : Bytes) (ds : List Descriptor) (pass : AreasPass image ds) (t : Descriptor) (scratch : Memᴰ t (scratch_areas image ds))
    (s : Descriptor) (file : Memᴰ s (file_areas image ds)) (tables : Tables) where
  abbrev fs : List Descriptor
  fs = file_areas image ds

  abbrev cs : List ℕ
  cs = copied_places image s.offset s.length (places_in image (file_areas image ds)) tables

  apart_all : T (all_disjoint (file_areas image ds))
  apart_all = true→T (files_disjoint image ds pass)

  long : (d : Descriptor) → Memᴰ d (file_areas image ds) → 0 < d.length
  long d m = let f = member_fits image ds pass d (file_member image ds pass d m) in omega (arith, f.long)

  -- the copies lie in the source
  copied_in : (p : ℕ) → Memᴰ p cs → Memᴰ p (record_places s.offset (records_of image s))
  unfolding copied_places copied
  copied_in p m =
      let ps = places_in image (file_areas image ds) in
      let test = copied image s.offset s.length ps tables in
      let k = keep_mem test ps (first_mem image (keep test ps) m) in
      let there = inside s.offset s.length p in
      let stays = counts_in image (table_of (block_at image p) tables) p && not (dropped image s.offset s.length ps tables.inodes p) in
      let near = (and_T there stays k.1).0 in
      subst (λ l. Memᴰ p l) (parted image s (file_areas image ds) apart_all long file).0 (mem_keep (inside s.offset s.length) ps k.0 near)

  at_cs : (i : ℕ) → i < length cs → Memᴰ (get_or cs i 0) (record_places s.offset (records_of image s))
  at_cs i h = copied_in (get_or cs i 0) (get_or_mem cs i 0 h)

  -- scratch has room for them, and none of them is in it
  module _ (rows : AllRows (by_place image) (placed_volume image ds) tables) where
    pub copies_fit : fits image t cs ≡ true
    unfolding moved
    copies_fit =
        let g = member_fits image ds pass s (file_member image ds pass s file) in
        let v = volume_copies image ds s tables apart_all long file rows in
        let e = ap (λ l. length (joined_bytes l)) v in
        let k = (copied_survive image ds s).fit in
        let d = length-drop area_header_size (area_bytes image s) in
        let l = length-take s.length (drop s.offset image) in
        clear_fit image t area_header_size cs
        (λ i h. let r = record_places_each s.offset (get_or cs i 0) (records_of image s) (at_cs i h) in rw r.2 (record_lies image s r.0 r.1))
        (omega (arith, g.long, scratch_longest image ds pass s t file scratch))
        (λ i h. clear (get_or cs i 0) (in_area image s (get_or cs i 0) (at_cs i h)).0 (record_ends image s (get_or cs i 0) (at_cs i h))
        (file_scratch_apart image ds pass s t file scratch))
      where
        clear : (p : ℕ) → s.offset ≤ p → p + size_at image p ≤ area_end s → Clear s t → Clear (span image p) t
        clear p a b (inl c) = inl (omega arith)
        clear p a b (inr c) = inr (omega arith)

    -- what is moved are the copies
    pub moved_copies : map (bytes_at image) cs ≡ copied_records image ds s
    moved_copies = volume_copies image ds s tables apart_all long file rows
