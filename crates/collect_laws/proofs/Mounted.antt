-- The image that a collection leaves of a volume that mounts: the scratch area and the source, each written whole.
use Rattle.std.specs.Prelude.{◌+◌, ◌≤◌, ◌≡◌, refl, true, length}
use Rattle.std.proofs.Math.Option.{some}
use mathlib.Core.List.{List, [], ◌∷◌, Memᴰ}
use Rattle.std.proofs.Common.{arith, length-drop}
use Rattle.format.specs.Bytes.{Bytes}
use Rattle.format.specs.AreaHeader.{area_header_size, area_id, scratch_id, is_file_area, is_scratch}
use Rattle.volume_laws.specs.Tests.{T→true}
use Rattle.volume_laws.specs.Lists.{keep_mem}
use Rattle.calls.specs.Image.{put}
use Rattle.calls.specs.Areas.{area_bytes, file_areas, scratch_areas}
use Rattle.calls.specs.Mount.{volume}
use Rattle.calls.specs.Format.{empty_area}
use Rattle.calls.specs.Collect.{count_of, source_of, records_elsewhere, copied_records, next_count, collected}
use Rattle.calls.specs.declared.Descriptor.{Descriptor}
use Rattle.calls_laws.specs.Checks.{Passes, area_fits}
use Rattle.image_laws.specs.Laws.{part_length}
use Rattle.image_laws.specs.Stores.{joined_bytes}
use Rattle.collect_laws.proofs.Source.{source_found}
use Rattle.collect_laws.specs.Stores.{filled_scratch, stores_are}
use Rattle.collect_laws.specs.Survivors.{Survivors, copies_survive}

module _ (image : Bytes) (ds : List Descriptor) where
  -- a scratch area and a file area are described
  pub scratch_is : (t : Descriptor) → scratch_areas image ds ≡ t ∷ [] → Memᴰ t ds × (is_scratch t.length (area_bytes image t) ≡ true)
  unfolding scratch_areas
  scratch_is t e =
      let m : Memᴰ t (scratch_areas image ds) = rw e (mathlib.Core.List.Memᴰ.head refl) in
      let k = keep_mem (λ d. is_scratch d.length (area_bytes image d)) ds m in
      (k.0, T→true k.1)

  pub file_is : (d : Descriptor) → Memᴰ d (file_areas image ds) → Memᴰ d ds × (is_file_area d.length (area_bytes image d) ≡ true)
  unfolding file_areas
  file_is d m = let k = keep_mem (λ d. is_file_area d.length (area_bytes image d)) ds m in (k.0, T→true k.1)

  -- what survives a collection of s
  pub copied_survive : (s : Descriptor) → Survivors (volume image ds) (area_bytes image s) (records_elsewhere image (file_areas image ds) s) (copied_records image ds s)
  copied_survive s = copies_survive (volume image ds) (area_bytes image s) (records_elsewhere image (file_areas image ds) s)

  module _ (p : Passes image ds) (t s : Descriptor) (one_scratch : scratch_areas image ds ≡ t ∷ [])
      (source_is : source_of image (file_areas image ds) t ≡ some s) where
    -- there is room for it in scratch
    pub copied_fit : area_header_size + length (joined_bytes (copied_records image ds s)) ≤ t.length
    copied_fit =
        let f = source_found image (file_areas image ds) t s source_is in
        let h = area_fits image ds p.described s (file_is s f.0).0 in
        omega (
          arith,
          (copied_survive s).fit,
          length-drop area_header_size (area_bytes image s),
          part_length image s.offset s.length h.1,
          f.1,
          h.0,
        )

    -- "Scratch takes the source's id; the counting records .. are copied ..; the source is erased and becomes scratch with its count plus one"
    pub collected_is : collected image ds t s
        ≡ put (put image t.offset (filled_scratch image t (area_id (area_bytes image s)) (joined_bytes (copied_records image ds s)))) s.offset
        (empty_area s.length (next_count (count_of image s)) scratch_id)
    unfolding collected
    collected_is =
        let f = source_found image (file_areas image ds) t s source_is in
        let h = area_fits image ds p.described s (file_is s f.0).0 in
        let k = area_fits image ds p.described t (scratch_is t one_scratch).0 in
        stores_are image t s (copied_records image ds s) k.0 k.1 h.0 h.1 copied_fit
