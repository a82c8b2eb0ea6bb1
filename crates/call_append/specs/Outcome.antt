-- The number of an append and the image after it. Document 01, "Create, append, unlink" and refusals 8 to 11, 13, 5 and 15.
use Rattle.std.specs.Prelude.{ℕ, ◌+◌, ◌≤◌, ◌<◌, ◌≡◌, refl, true, false, cond, List, length, ltb}
use Rattle.std.proofs.Common.{sym, ap, ◌∙◌, arith, lt-ltb, le-ltb}
use Rattle.std.proofs.Math.Option.{Option, none, some}
use Rattle.std.proofs.Math.Seq.{take-length}
use Rattle.format.specs.Bytes.{Bytes}
use Rattle.format.specs.Ids.{is_directory_id}
use Rattle.volume.specs.View.{by_bytes}
use Rattle.volume.specs.Counting.{block_ids}
use Rattle.volume.specs.Contents.{last_block, file_blocks}
use Rattle.volume.specs.Tree.{Found, found, absent}
use Rattle.volume_laws.specs.Map.{over_volume, block_ids_map, last_block_map}
use Rattle.record_places.specs.Place.{by_place, bytes_at}
use Rattle.record_places.specs.Laws.{place_views}
use Rattle.table_rows.specs.Parts.{part_long}
use Rattle.calls.specs.Areas.{file_areas}
use Rattle.calls.specs.Refusal.{first_refusal}
use Rattle.calls.specs.Mount.{most_blocks, volume}
use Rattle.calls.specs.Storing.{Store, named_ids, spaces, place_all, no_place, stored_or}
use Rattle.calls.specs.Lookup.{resolve}
use Rattle.calls.specs.Attempt.{Attempt, goes, refuses, number_of, leaves, unless, at_found}
use Rattle.calls.specs.Append.{most_appended, pieces_of, or_none, block_records, new_blocks, is_broken, append_to, appending, append_image, append_of, image_appended}
use Rattle.calls.specs.declared.Descriptor.{Descriptor}
use Rattle.area_pass.specs.Bridge.{placed_volume, volume_places}
use Rattle.path_find.specs.Text.{text_long, text_at}
use Rattle.write_sizes.specs.Cut.{pieces, shortest_described}
use Rattle.write_pieces.specs.Plan.{records_count}
use Rattle.mount_state.specs.State.{starts_in, spans_in, block_ids_in, block_ids_at, Safe, Holds}
use Rattle.mount_state.specs.declared.Mounted.{Mounted}
use Rattle.call_append.specs.Last.{last_unless_broken, none_broken, some_whole}
use Rattle.call_append.specs.Written.{size_for, Written}

module _ (image : Bytes) (ds : List Descriptor) (text : Bytes) where
  -- the number and the image of what becomes of an append
  abbrev pub Outcome : Attempt ℕ → ℕ → Bytes → Type 0
  Outcome a r x = (r ≡ number_of a) × (x ≡ leaves image (append_image image ds text) a)

  -- an append to the inode f
  abbrev pub append_at : ℕ → Attempt ℕ
  append_at f = unless (append_to image ds f text) (goes f)

  -- ---- an append to the inode f, by the checks in their order

  module _ (f : ℕ) where
    pub to_directory : is_directory_id f ≡ true → Outcome (append_at f) 11 image
    unfolding append_to first_refusal
    to_directory e = (rw e, rw e)

    module _ (file : is_directory_id f ≡ false) where
      to_broken : is_broken (file_blocks by_bytes (volume image ds) f) ≡ true → Outcome (append_at f) 13 image
      unfolding append_to first_refusal
      to_broken e = (rw (file, e), rw (file, e))

      module _ (whole : is_broken (file_blocks by_bytes (volume image ds) f) ≡ false) where
        to_full : ltb most_blocks (length (block_ids by_bytes (volume image ds)) + length (new_blocks image ds f text)) ≡ true
            → Outcome (append_at f) 5 image
        unfolding append_to first_refusal
        to_full e = (rw (file, whole, e), rw (file, whole, e))

        module _ (few : ltb most_blocks (length (block_ids by_bytes (volume image ds)) + length (new_blocks image ds f text)) ≡ false) where
          stores : Option (List Store)
          stores = place_all (spaces image (file_areas image ds)) (new_blocks image ds f text)

          to_last : append_to image ds f text ≡ cond (no_place (place_all (spaces image (file_areas image ds)) (new_blocks image ds f text))) 15 0
          unfolding append_to first_refusal
          to_last = rw (file, whole, few)

          to_written : (r : ℕ) (x : Bytes) → r ≡ cond (no_place (place_all (spaces image (file_areas image ds)) (new_blocks image ds f text))) 15 0
              → x ≡ stored_or image (place_all (spaces image (file_areas image ds)) (new_blocks image ds f text)) → Outcome (append_at f) r x
          to_written r x q w = go (place_all (spaces image (file_areas image ds)) (new_blocks image ds f text)) refl
            where
              go : (o : Option (List Store)) → place_all (spaces image (file_areas image ds)) (new_blocks image ds f text) ≡ o
                  → Outcome (append_at f) r x
              go none z =
                  let n : append_to image ds f text ≡ 15 = to_last ∙ rw z in
                  (q ∙ rw (n, z), w ∙ rw (n, z))
              go (some l) z =
                  let n : append_to image ds f text ≡ 0 = to_last ∙ rw z in
                  (q ∙ rw (n, z), w ∙ rw n)

-- ---- what the code found of it

module _ {image : Bytes} {ds : List Descriptor} {m : Mounted} {t : List ℕ} (s : Safe image m t) (h : Holds image ds m t) (f : ℕ) (text : Bytes)
    (file : is_directory_id f ≡ false) where
  by_bytes_lem : volume image ds ≡ over_volume (bytes_at image) (placed_volume image ds)
  by_bytes_lem = volume_places image ds

  pieces_are : pieces_of (file_areas image ds) text ≡ pieces (size_for m t) text
  unfolding pieces_of
  pieces_are = rw (← h.files, ← shortest_described (starts_in m t) (spans_in m t) s.fit.pairs)

  blocks_are : length (block_ids by_bytes (volume image ds)) ≡ m.blocks
  blocks_are =
      ap (λ v. length (block_ids by_bytes v)) by_bytes_lem
      ∙ ap length (block_ids_map (by_place image) by_bytes (bytes_at image) (place_views image) (placed_volume image ds))
      ∙ ap length (sym h.blocks.ids_are)
      ∙ ap length (take-length (block_ids_in m t))
      ∙ part_long block_ids_at m.blocks t (omega (arith, s.blocks_few, s.long))

  -- it is broken
  pub out_broken : none ≡ last_unless_broken image (placed_volume image ds) f → Outcome image ds text (append_at image ds text f) 13 image
  out_broken e = to_broken image ds text f file (rw by_bytes_lem (none_broken image (placed_volume image ds) f e))

  -- it is not, and has this last block
  module _ (last : ℕ) (e : some last ≡ last_unless_broken image (placed_volume image ds) f) where
    whole : is_broken (file_blocks by_bytes (volume image ds) f) ≡ false
    whole = rw by_bytes_lem (some_whole image (placed_volume image ds) f last e).0

    last_is : or_none (last_block by_bytes (volume image ds) f) ≡ last
    last_is =
        let k = last_block_map (by_place image) by_bytes (bytes_at image) (place_views image) (placed_volume image ds) f in
        ap or_none (ap (λ v. last_block by_bytes v f) by_bytes_lem ∙ k ∙ (some_whole image (placed_volume image ds) f last e).1)

    new_are : new_blocks image ds f text ≡ block_records (named_ids (volume image ds)) f last (pieces (size_for m t) text)
    unfolding new_blocks
    new_are = rw (last_is, pieces_are)

    new_count : length (new_blocks image ds f text) ≡ length (pieces (size_for m t) text)
    new_count = ap length new_are ∙ records_count (named_ids (volume image ds)) f last (pieces (size_for m t) text)

    module _ (count : ℕ) (c : count ≡ length (pieces (size_for m t) text)) where
      -- there are too many blocks
      pub out_full : most_blocks < m.blocks + count → Outcome image ds text (append_at image ds text f) 5 image
      out_full g = to_full image ds text f file whole (lt-ltb most_blocks (length (block_ids by_bytes (volume image ds)) + length (new_blocks image ds f text)) (omega (arith, blocks_are, new_count)))

      -- or the pieces were written
      pub out_written : m.blocks + count ≤ most_blocks → (r : ℕ) (x : Bytes) (names : List ℕ) → names ≡ named_ids (volume image ds)
          → Written image (spaces image (file_areas image ds)) names (record { file = f; last = last; size = size_for m t; count = count }) text r x
          → Outcome image ds text (append_at image ds text f) r x
      out_written g r x names q w =
          to_written image ds text f file whole (le-ltb most_blocks (length (block_ids by_bytes (volume image ds)) + length (new_blocks image ds f text)) (omega (arith, blocks_are, new_count))) r x
          (rw (new_are, ← q) w.number) (rw (new_are, ← q) w.stored)

-- ---- the whole append

module _ {image : Bytes} {ds : List Descriptor} {m : Mounted} {t : List ℕ} (h : Holds image ds m t) (base path text : Bytes) where
  abbrev Done : ℕ → Bytes → Type 0
  Done r x = (r ≡ append_of image ds base path text) × (x ≡ image_appended image ds base path text)

  done : (a : Attempt ℕ) → appending image ds base path text ≡ a → {r : ℕ} {x : Bytes} → Outcome image ds text a r x → Done r x
  unfolding append_of image_appended
  done a e o = (rw e o.0, rw e o.1)

  -- too much
  pub append_long : most_appended < length text → Done 8 image
  unfolding appending
  append_long more = done (refuses 8) (text_long h base path text (λ f. append_to image ds f text) more) (refl, refl)

  module _ (short : length text ≤ most_appended) where
    appending_is : (o : Found) → o ≡ resolve image ds base path → appending image ds base path text ≡ at_found (λ f. append_to image ds f text) o
    unfolding appending
    appending_is o e = text_at h base path text (λ f. append_to image ds f text) short o e

    -- the path leads to nothing
    pub append_absent : (n : ℕ) → absent n ≡ resolve image ds base path → Done n image
    append_absent n e = done (refuses n) (appending_is (absent n) e) (refl, refl)

    -- it leads to the inode f, and what became of the append to it
    pub append_found : (f : ℕ) → found f ≡ resolve image ds base path → {r : ℕ} {x : Bytes} → Outcome image ds text (append_at image ds text f) r x → Done r x
    append_found f e w = done (append_at image ds text f) (appending_is (found f) e) w
