-- What became of the new versions: all are stored, or none and 16 or 15.
use Rattle.std.specs.Prelude.{ℕ, ◌+◌, ◌≤◌, ◌<◌, ◌≡◌, Bool, true, false, cond, take, get_or}
use Rattle.std.proofs.Math.Path.{refl, sym}
use Rattle.std.proofs.Common.{ap, ◌∙◌, arith, length-take}
use mathlib.Core.List.{List, [], ◌∷◌, map, Memᴰ}
use Rattle.std.proofs.Math.Option.{Option, none, some}
use Rattle.std.proofs.Math.ListN.{length}
use Rattle.std.proofs.lemmas.List.{length-map}
use Rattle.format.specs.Bytes.{Bytes}
use Rattle.format.specs.Record.{block, record_sequence}
use Rattle.volume.specs.View.{by_bytes}
use Rattle.volume.specs.Contents.{text_of}
use Rattle.volume_laws.specs.Map.{over, text_of_map}
use Rattle.calls.specs.Areas.{file_areas}
use Rattle.calls.specs.Refusal.{◌refused_by◌, first_refusal}
use Rattle.calls.specs.Storing.{Store, spaces, place_all, no_place, store_all, stored_or, is_among}
use Rattle.calls.specs.Rewrite.{last_sequence}
use Rattle.calls.specs.Overwrite.{Change, changes, text_after, new_version}
use Rattle.calls.specs.declared.Descriptor.{Descriptor}
use Rattle.calls_laws.specs.Checks.{passes}
use Rattle.image_laws.specs.Laws.{length_put}
use Rattle.record_places.specs.Place.{size_at, bytes_at, by_place}
use Rattle.record_places.specs.Laws.{place_views, size_block}
use Rattle.area_pass.specs.Listing.{places_in}
use Rattle.mount_state.specs.State.{Safe, Holds}
use Rattle.mount_state.specs.declared.Mounted.{Mounted}
use Rattle.write_room.specs.Spaces.{ClearOf, clear_parts, EndsWithin}
use Rattle.write_room.specs.Plan.{places_for, places_each, Planned, pair_stores, pairs_needed, each_needed, blocks_paired}
use Rattle.write_room.specs.Clear.{records_clear}
use Rattle.file_blocks.specs.Walk.{data_long}
use Rattle.file_list.specs.Listing.{data_size, Listed}
use Rattle.file_list.specs.File.{Rows}
use Rattle.write_versions.specs.Held.{total, sizes_held, Sizes}
use Rattle.write_versions.specs.Greatest.{greatest_from, text_size_lem, listed_size, listed_long}
use Rattle.write_versions.specs.Sizes.{versions_sizes}
use Rattle.write_versions.specs.Stores.{versions_of, Storable, Fresh, text_total}

-- the blocks are among the records of the file areas
abbrev pub AllPlaced : Bytes → List Descriptor → List ℕ → Type 0
AllPlaced image ds bs = (j : ℕ) → j < length bs → Memᴰ (get_or bs j 0) (places_in image (file_areas image ds))

module _ (image : Bytes) (ds : List Descriptor) (bs : List ℕ) (from : ℕ) (text : Bytes) where
  abbrev pub changed : List Change
  changed = changes (map (bytes_at image) bs) from text

  abbrev pub any_greatest : Bool
  any_greatest = is_among last_sequence (map (λ c. record_sequence c.block) changed)

  abbrev pub planned : Option (List Store)
  planned = place_all (spaces image (file_areas image ds)) (map new_version changed)

  pub record Written (r : ℕ) (x : Bytes) : Type 0 where
    pub number : r ≡ first_refusal ((any_greatest refused_by 16) ∷ (no_place planned refused_by 15) ∷ [])
    pub stored : x ≡ cond any_greatest image (stored_or image planned)

  pub none_follows : any_greatest ≡ true → Written 16 image
  unfolding first_refusal
  none_follows e = record { number = rw e; stored = rw e }

-- the stores stay in the image
pub storable : (image : Bytes) (bs ns : List ℕ) (from to : ℕ) (text : Bytes) → Listed image bs ns → to ≡ from + length text → to ≤ total ns
    → (qs : List ℕ) → Sizes ns → Planned (length image) (sizes_held from to 0 ns) (take (length (sizes_held from to 0 ns)) qs)
    → Storable image bs ns qs from to text
storable image bs ns from to text listed range within qs s p =
    let needed = sizes_held from to 0 ns in
    record {
      listed = listed;
      sizes = s;
      ends = each_needed (EndsWithin (length image)) needed qs p.ends;
      count = omega (arith, p.count, length-take (length needed) qs);
      range = range;
      within = within;
    }

module _ (image : Bytes) (ds : List Descriptor) (bs ns : List ℕ) (from to : ℕ) (text : Bytes) (listed : Listed image bs ns)
    (range : to ≡ from + length text) (within : to ≤ total ns) where
  abbrev needed : List ℕ
  needed = sizes_held from to 0 ns

  whole_long : length (text_of by_bytes (map (bytes_at image) bs)) ≡ total ns
  whole_long =
      ap length (text_of_map (by_place image) by_bytes (bytes_at image) (place_views image) bs) ∙ text_total image bs ∙ ap total (sym listed.sizes)

  sizes_are : map length (versions_of image bs from text) ≡ map (λ n. block.header_size + n) needed
  unfolding changes
  sizes_are =
      let after = text_after (map (bytes_at image) bs) from text in
      let long : length after ≡ total ns = length_put (text_of by_bytes (map (bytes_at image) bs)) from text (omega (arith, whole_long)) ∙ whole_long in
      rw (range, ← data_sizes) (versions_sizes from (from + length text) after 0 (map (bytes_at image) bs) (omega (arith, whole_long)))
    where
      data_sizes : map (λ b. length (by_bytes.text b)) (map (bytes_at image) bs) ≡ ns
      data_sizes = go bs ∙ sym listed.sizes
        where
          go : (l : List ℕ) → map (λ b. length (by_bytes.text b)) (map (bytes_at image) l) ≡ map (data_size image) l
          go [] = refl
          go (p ∷ l) = rw (text_size_lem image p, go l)

  planned_is : planned image ds bs from text ≡ over (λ qs. pair_stores qs (versions_of image bs from text)) (places_for (spaces image (file_areas image ds)) needed)
  planned_is = blocks_paired (spaces image (file_areas image ds)) (versions_of image bs from text) needed sizes_are

  versions_count : length (versions_of image bs from text) ≡ length needed
  versions_count = sym (length-map (versions_of image bs from text) (length {A = ℕ})) ∙ ap length sizes_are ∙ length-map needed (λ n. block.header_size + n)

  module _ (follows : any_greatest image ds bs from text ≡ false) where
    pub no_place_lem : places_for (spaces image (file_areas image ds)) needed ≡ none → Written image ds bs from text 15 image
    unfolding first_refusal
    no_place_lem e = let z : planned image ds bs from text ≡ none = planned_is ∙ rw e in record { number = rw (follows, z); stored = rw (follows, z) }

    pub all_stored : (qs : List ℕ) → places_for (spaces image (file_areas image ds)) needed ≡ some (take (length needed) qs)
        → (x : Bytes) → x ≡ store_all image (pair_stores qs (versions_of image bs from text)) → Written image ds bs from text 0 x
    unfolding first_refusal
    all_stored qs e x q =
        let v = versions_of image bs from text in
        let z : planned image ds bs from text ≡ some (pair_stores qs v) = planned_is ∙ rw (e, ← versions_count, pairs_needed qs v) in
        record { number = rw (follows, z); stored = q ∙ rw (follows, z) }

  -- the stores are those that are meant
  pub fresh : {m : Mounted} {t : List ℕ} → Holds image ds m t → AllPlaced image ds bs
      → ((after : Bytes) → greatest_from image from to after 0 bs ≡ false)
      → (qs : List ℕ) → places_for (spaces image (file_areas image ds)) needed ≡ some (take (length needed) qs) → Fresh image bs ns qs from to
  fresh h placed follows qs e = record {
    apart = λ j l.
        let p = get_or bs j 0 in
        let c = records_clear image ds (passes image ds h.number).described p (placed j l) in
        let a = places_each (ClearOf p (size_at image p)) (clear_parts p (size_at image p)) (spaces image (file_areas image ds)) needed (take (length needed) qs) e c in
        each_needed (ClearOf p (size_at image p)) needed qs a.0;
    follows = follows;
  }

-- what `list_file` holds are sizes of blocks of an image
pub rows_sizes : {image : Bytes} {m : Mounted} {t : List ℕ} → Safe image m t → (n size : ℕ) (bs ns : List ℕ) → Rows image n size bs ns
    → Sizes (take n ns) × (size ≡ total (take n ns))
rows_sizes {image} safe n size bs ns r =
    let l = r.listed in
    let e : size ≡ total (take n ns) = r.sized ∙ text_total image (take n bs) ∙ ap total (sym l.sizes) in (
      record {
        small = λ i h.
            let k : i < length (take n bs) = omega (arith, listed_long l) in
            let p = get_or (take n bs) i 0 in
            let y = l.lie i k in
            omega (arith, safe.fit.small, y.0, size_block image p y.1, data_long image p y.0 y.1, listed_size l i k);
        few = omega (arith, r.small, r.few);
      },
      e,
    )
