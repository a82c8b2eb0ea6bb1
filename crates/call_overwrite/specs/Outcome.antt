-- The number of an overwrite and the image after it. Document 02, T-05: refusals 8 to 11, 13, 14, 16 and 15.
use Rattle.std.specs.Prelude.{ℕ, ◌+◌, ◌≤◌, ◌<◌, Bool, true, false, get_or}
use Rattle.std.proofs.Math.Path.{◌≡◌, refl}
use Rattle.std.proofs.Common.{ap, ◌∙◌, arith}
use Rattle.std.proofs.Math.Bool.{cond}
use mathlib.Core.List.{List, map, Memᴰ}
use Rattle.std.proofs.Math.Option.{Option, none, some}
use Rattle.std.proofs.Math.ListN.{length}
use borrow.Author.Tests.{lt-ltb, le-ltb, ne_eqb}
use Rattle.format.specs.Bytes.{Bytes}
use Rattle.format.specs.Ids.{is_directory_id}
use Rattle.volume.specs.Lists.{bind}
use Rattle.volume.specs.View.{by_bytes}
use Rattle.volume.specs.Counting.{volume_of, block_of}
use Rattle.volume.specs.Contents.{owned, last_block, chain_back, file_blocks, text_of}
use Rattle.volume.specs.Tree.{Found, found, absent}
use Rattle.volume_laws.specs.Lists.{keep_mem, get_or_mem}
use Rattle.volume_laws.specs.Counting.{counting_mem}
use Rattle.volume_laws.proofs.Chain.{chain_counts}
use Rattle.volume_laws.specs.Map.{over, file_blocks_map, text_of_map}
use Rattle.record_places.specs.Place.{by_place, bytes_at}
use Rattle.record_places.specs.Laws.{place_views}
use Rattle.calls.specs.Areas.{file_areas}
use Rattle.calls.specs.Refusal.{first_refusal}
use Rattle.calls.specs.Mount.{volume, mount_number}
use Rattle.calls.specs.Storing.{Store, no_place}
use Rattle.calls.specs.Lookup.{resolve}
use Rattle.calls.specs.Attempt.{Attempt, goes, refuses, number_of, leaves, unless, at_found, attempt_at}
use Rattle.calls.specs.Append.{most_appended}
use Rattle.calls.specs.Overwrite.{overwrite_plan, overwrite_to, overwriting, overwrite_image, overwrite_of, image_overwritten}
use Rattle.calls.specs.Outcome.{code, code_nonzero}
use Rattle.calls.specs.declared.Descriptor.{Descriptor}
use Rattle.calls.specs.declared.Refusal.{Refusal}
use Rattle.area_pass.specs.Listing.{places_in}
use Rattle.area_pass.specs.Bridge.{placed_volume, volume_places}
use Rattle.path_find.specs.Text.{text_long, text_at}
use Rattle.mount_state.specs.State.{Holds}
use Rattle.mount_state.specs.declared.Mounted.{Mounted}
use Rattle.call_overwrite.specs.Written.{AllPlaced, any_greatest, planned, Written}

module _ (image : Bytes) (ds : List Descriptor) (offset : ℕ) (text : Bytes) where
  -- the number and the image of what becomes of an overwrite
  abbrev pub Outcome : Attempt ℕ → ℕ → Bytes → Type 0
  Outcome a r x = (r ≡ number_of a) × (x ≡ leaves image (overwrite_image image ds offset text) a)

  -- an overwrite in the inode f
  abbrev pub overwrite_at : ℕ → Attempt ℕ
  overwrite_at f = unless (overwrite_to image ds f offset text) (goes f)

  -- ---- by the checks in their order

  module _ (f : ℕ) where
    pub in_directory : is_directory_id f ≡ true → Outcome (overwrite_at f) 11 image
    unfolding overwrite_to first_refusal
    in_directory e = (rw e, rw e)

    module _ (file : is_directory_id f ≡ false) where
      by_bytes_lem : file_blocks by_bytes (volume image ds) f ≡ over (map (bytes_at image)) (file_blocks (by_place image) (placed_volume image ds) f)
      by_bytes_lem = rw (volume_places image ds) (file_blocks_map (by_place image) by_bytes (bytes_at image) (place_views image) (placed_volume image ds) f)

      pub in_broken : file_blocks (by_place image) (placed_volume image ds) f ≡ none → Outcome (overwrite_at f) 13 image
      unfolding overwrite_to first_refusal
      in_broken e =
          let z : file_blocks by_bytes (volume image ds) f ≡ none = by_bytes_lem ∙ rw e in
          (rw (file, z), rw (file, z))

      -- its blocks
      module _ (bs : List ℕ) (whole : file_blocks (by_place image) (placed_volume image ds) f ≡ some bs) where
        blocks_are : file_blocks by_bytes (volume image ds) f ≡ some (map (bytes_at image) bs)
        blocks_are = by_bytes_lem ∙ rw whole

        size_is : length (text_of by_bytes (map (bytes_at image) bs)) ≡ length (text_of (by_place image) bs)
        size_is = ap length (text_of_map (by_place image) by_bytes (bytes_at image) (place_views image) bs)

        pub in_past : length (text_of (by_place image) bs) < offset + length text → Outcome (overwrite_at f) 14 image
        unfolding overwrite_to first_refusal
        in_past h =
            let z = lt-ltb (length (text_of by_bytes (map (bytes_at image) bs))) (offset + length text) (omega (arith, size_is)) in
            (rw (file, blocks_are, z), rw (file, blocks_are, z))

        -- each is one of the records that were read
        pub all_placed : AllPlaced image ds bs
        unfolding file_blocks volume_of
        all_placed j h = go (last_block (by_place image) (placed_volume image ds) f) whole
          where
            go : (o : Option ℕ)
                → bind o (chain_back (by_place image) (block_of (by_place image) (placed_volume image ds)) f (length (owned (by_place image) (placed_volume image ds) f))) ≡ some bs
                → Memᴰ (get_or bs j 0) (places_in image (file_areas image ds))
            go none e = let z : ◌≡◌ {A = ℕ} 0 1 = cc in absurd (omega arith)
            go (some i) e =
                let c = chain_counts (by_place image) (block_of (by_place image) (placed_volume image ds)) f (length (owned (by_place image) (placed_volume image ds) f)) i bs e (get_or bs j 0) (get_or_mem bs j 0 h) in
                (keep_mem _ (places_in image (file_areas image ds)) (counting_mem (by_place image) (placed_volume image ds).blocks c.0 (get_or bs j 0) c.1).0).0

        plan_is : overwrite_plan image ds f offset text ≡ planned image ds bs offset text
        unfolding overwrite_plan
        plan_is = rw blocks_are

        pub in_written : offset + length text ≤ length (text_of (by_place image) bs) → (r : ℕ) (x : Bytes) → Written image ds bs offset text r x
            → Outcome (overwrite_at f) r x
        unfolding overwrite_to first_refusal
        in_written h r x w = go (any_greatest image ds bs offset text) refl (planned image ds bs offset text) refl
          where
            checks_are : overwrite_to image ds f offset text
                ≡ cond (any_greatest image ds bs offset text) 16 (cond (no_place (planned image ds bs offset text)) 15 0)
            checks_are =
                let z = le-ltb (length (text_of by_bytes (map (bytes_at image) bs))) (offset + length text) (omega (arith, size_is)) in
                rw (plan_is, file, blocks_are, z)

            go : (g : Bool) → any_greatest image ds bs offset text ≡ g → (o : Option (List Store)) → planned image ds bs offset text ≡ o
                → Outcome (overwrite_at f) r x
            go true e o q =
                let n : overwrite_to image ds f offset text ≡ 16 = checks_are ∙ rw e in
                (w.number ∙ rw (n, e), w.stored ∙ rw (n, e))
            go false e none q =
                let n : overwrite_to image ds f offset text ≡ 15 = checks_are ∙ rw (e, q) in
                (w.number ∙ rw (n, e, q), w.stored ∙ rw (n, e, q))
            go false e (some l) q =
                let n : overwrite_to image ds f offset text ≡ 0 = checks_are ∙ rw (e, q) in
                (w.number ∙ rw (n, e, q), w.stored ∙ rw (n, e, plan_is))

-- ---- the whole overwrite

module _ {image : Bytes} {ds : List Descriptor} {m : Mounted} {t : List ℕ} (h : Holds image ds m t) (base path : Bytes) (offset : ℕ) (text : Bytes) where
  abbrev Done : ℕ → Bytes → Type 0
  Done r x = (r ≡ overwrite_of image ds base path offset text) × (x ≡ image_overwritten image ds base path offset text)

  done : (a : Attempt ℕ) → overwriting image ds base path offset text ≡ a → {r : ℕ} {x : Bytes} → Outcome image ds offset text a r x → Done r x
  unfolding overwrite_of image_overwritten
  done a e o = (rw e o.0, rw e o.1)

  -- too much
  pub overwrite_long : most_appended < length text → Done 8 image
  unfolding overwriting
  overwrite_long more = done (refuses 8) (text_long h base path text (λ f. overwrite_to image ds f offset text) more) (refl, refl)

  module _ (short : length text ≤ most_appended) where
    overwriting_is : (o : Found) → o ≡ resolve image ds base path → overwriting image ds base path offset text ≡ at_found (λ f. overwrite_to image ds f offset text) o
    unfolding overwriting
    overwriting_is o e = text_at h base path text (λ f. overwrite_to image ds f offset text) short o e

    -- the path leads to nothing
    pub overwrite_absent : (n : ℕ) → absent n ≡ resolve image ds base path → Done n image
    overwrite_absent n e = done (refuses n) (overwriting_is (absent n) e) (refl, refl)

    -- it leads to the inode f, and what became of the overwrite in it
    pub overwrite_found : (f : ℕ) → found f ≡ resolve image ds base path → {r : ℕ} {x : Bytes} → Outcome image ds offset text (overwrite_at image ds offset text f) r x → Done r x
    overwrite_found f e w = done (overwrite_at image ds offset text f) (overwriting_is (found f) e) w

-- ---- a refused mount

pub overwrite_refused : (image : Bytes) (ds : List Descriptor) (base path : Bytes) (offset : ℕ) (text : Bytes) (r : Refusal) → code r ≡ mount_number image ds
    → (code r ≡ overwrite_of image ds base path offset text) × (image ≡ image_overwritten image ds base path offset text)
unfolding overwriting overwrite_of image_overwritten attempt_at
overwrite_refused image ds base path offset text r k =
    let e = ne_eqb (mount_number image ds) 0 (λ z. code_nonzero r (k ∙ z)) in
    (rw (k, e), rw e)
