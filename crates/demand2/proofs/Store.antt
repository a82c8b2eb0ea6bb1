-- The whole image: one record stored in a clean file area. That area reads as its old records followed by the new one, and nothing else changes.
use Rattle.std.specs.Prelude.{ℕ, zero, suc, ◌+◌, ◌-◌, ◌≤◌, ◌<◌, ◌≡◌, refl, ◌≢◌, ◌⊎◌, true, false, length, take, drop}
use Rattle.std.proofs.Common.{sym, ap, ◌∙◌, inl, inr, ⊎_elim, arith, length-drop, length-take-le, drop-drop, take-take}
use mathlib.Core.List.Memᴰ
use mathlib.Core.List.{List, [], ◌∷◌, map, Memᴰ}
use Rattle.std.proofs.Math.Decide.{ℕ_discrete}
use Rattle.format.specs.Bytes.{Bytes}
use Rattle.format.specs.AreaHeader.{area_header_size, area_id, is_file_area}
use Rattle.format.specs.Record.{record_size}
use Rattle.format.specs.Reading.{Placed, area_free, area_clean}
use Rattle.format_laws.specs.Reading.{records_lawful}
use Rattle.volume_laws.specs.Lists.{keep_cong, keep_mem}
use Rattle.calls.specs.Image.{put, part, erased}
use Rattle.calls.specs.Areas.{area_end, area_bytes, file_areas, scratch_areas}
use Rattle.calls.specs.Mount.{records_of, accepted_records, bad_description}
use Rattle.calls.specs.declared.Descriptor.{Descriptor}
use Rattle.calls_laws.specs.Checks.{area_fits, areas_apart, header_file, header_scratch, header_id}
use Rattle.calls_laws.specs.Records.{Stored, stored, stored_mem}
use Rattle.image_laws.specs.Laws.{length_put, part_outside, part_around}
use Rattle.demand2.specs.Area.{Whole, AreaStored, free_behind, area_stored}
use Rattle.demand2.specs.Store.{free_place, RecordFits, OneStored}

pub same_area : (a b : Descriptor) → Dec (a ≡ b)
same_area a b = go (ℕ_discrete a.offset b.offset) (ℕ_discrete a.length b.length)
  where
    go : Dec (a.offset ≡ b.offset) → Dec (a.length ≡ b.length) → Dec (a ≡ b)
    go (yes p) (yes q) = yes (λ i. record { offset = p i; length = q i })
    go (yes p) (no q) = no (λ e. q (λ i. (e i).length))
    go (no p) q = no (λ e. p (λ i. (e i).offset))

-- a part of a front
part_front : (n p e : ℕ) (l : Bytes) → p + n ≤ e → take n (drop p (take e l)) ≡ take n (drop p l)
part_front n zero e l h = take-take n e l (omega arith)
part_front n (suc p) zero l h = absurd (omega arith)
part_front n (suc p) (suc e) [] h = refl
part_front n (suc p) (suc e) (x ∷ l) h = part_front n p e l (omega arith)

-- a file area is one of those listed
pub file_listed : (image : Bytes) (ds : List Descriptor) (d : Descriptor) → Memᴰ d (file_areas image ds) → Memᴰ d ds
unfolding file_areas
file_listed image ds d m = (keep_mem (λ d. is_file_area d.length (area_bytes image d)) ds m).0

pub area_length : (image : Bytes) (d : Descriptor) → area_end d ≤ length image → length (area_bytes image d) ≡ d.length
area_length image d h = length-take-le d.length (drop d.offset image) (omega (arith, length-drop d.offset image))

module _ (image : Bytes) (ds : List Descriptor) (described : bad_description image ds ≡ false)
    (area : Descriptor) (b : Bytes) (f : RecordFits image ds area b) (w : Whole record_size b) where
  listed : Memᴰ area ds
  listed = file_listed image ds area f.file

  inside : (area_header_size ≤ area.length) × (area_end area ≤ length image)
  inside = area_fits image ds described area listed

  long : length (area_bytes image area) ≡ area.length
  long = area_length image area inside.1

  behind : area_header_size ≤ area_free record_size (area_bytes image area)
  behind = free_behind record_size records_lawful (area_bytes image area) (omega (arith, long, inside.0)) f.clean

  into : AreaStored record_size (area_bytes image area) (put (area_bytes image area) (area_free record_size (area_bytes image area)) b) b
  into =
      area_stored record_size records_lawful (area_bytes image area) (omega (arith, long, inside.0)) f.clean b w
      (omega (arith, long, f.room))

  fits_image : free_place image area + length b ≤ length image
  fits_image = omega (arith, f.room, inside.1)

  there : area_bytes (put image (free_place image area) b) area ≡ put (area_bytes image area) (area_free record_size (area_bytes image area)) b
  there =
      let e : free_place image area - area.offset ≡ area_free record_size (area_bytes image area) = omega arith in
      rw e at (part_around image (free_place image area) b fits_image area.offset area.length (omega arith) f.room)

  other : (d : Descriptor) → Memᴰ d ds → d ≢ area → area_bytes (put image (free_place image area) b) d ≡ area_bytes image d
  other d m n = part_outside image (free_place image area) b fits_image d.offset d.length (record { no_common = apart })
    where
      apart : (i j : ℕ) → i < d.length → j < length b → d.offset + i ≡ free_place image area + j → ⊥
      apart i j g h e =
          n (areas_apart image ds described d area m listed (d.offset + i) (omega arith, omega arith)
          (omega (arith, behind), omega (arith, f.room)))

  pub one_stored : OneStored image (put image (free_place image area) b) ds area b
  one_stored = record {
    one_length = length_put image (free_place image area) b fits_image;
    headers = λ d m. header d m (same_area d area);
    reads = rw there into.reads;
    clean = rw there into.clean;
    free = rw there into.free;
    over_erased = was_erased;
    elsewhere = other;
  }
    where
      was_erased : part image (free_place image area) (length b) ≡ erased (length b)
      was_erased =
          rw (drop-drop (area_free record_size (area_bytes image area)) area.offset image) at
          (sym (part_front (length b) (area_free record_size (area_bytes image area)) area.length (drop area.offset image)
          (omega (arith, f.room)))
          ∙ into.over_erased)

      header : (d : Descriptor) → Memᴰ d ds → Dec (d ≡ area)
          → take area_header_size (area_bytes (put image (free_place image area) b) d) ≡ take area_header_size (area_bytes image d)
      header d m (yes e) = rw (e, there) into.header
      header d m (no e) = rw (other d m e)

-- What the checks and the records turn on
module _ {image image' : Bytes} {ds : List Descriptor} {area : Descriptor} {b : Bytes} (s : OneStored image image' ds area b) where
  pub same_file_areas : file_areas image' ds ≡ file_areas image ds
  unfolding file_areas
  same_file_areas = keep_cong _ _ ds (λ d m. header_file d.length (area_bytes image' d) (area_bytes image d) (s.headers d m))

  pub same_scratch_areas : scratch_areas image' ds ≡ scratch_areas image ds
  unfolding scratch_areas
  same_scratch_areas = keep_cong _ _ ds (λ d m. header_scratch d.length (area_bytes image' d) (area_bytes image d) (s.headers d m))

  pub same_area_ids : (fs : List Descriptor) → ((d : Descriptor) → Memᴰ d fs → Memᴰ d ds)
      → map (λ d. area_id (area_bytes image' d)) fs ≡ map (λ d. area_id (area_bytes image d)) fs
  same_area_ids [] h = refl
  same_area_ids (d ∷ fs) h =
      let e = header_id 0 (area_bytes image' d) (area_bytes image d) (s.headers d (h d (Memᴰ.head refl))) in
      let l = same_area_ids fs (λ d m. h d (Memᴰ.tail m)) in
      λ i. e i ∷ l i

  -- a clean area stays clean, and an unclean one as it is
  pub same_clean : area_clean record_size (area_bytes image area) ≡ true → (d : Descriptor) → Memᴰ d ds
      → area_clean record_size (area_bytes image' d) ≡ area_clean record_size (area_bytes image d)
  same_clean c d m = go (same_area d area)
    where
      go : Dec (d ≡ area) → area_clean record_size (area_bytes image' d) ≡ area_clean record_size (area_bytes image d)
      go (yes e) = rw (e, s.clean, c)
      go (no e) = rw (s.elsewhere d m e)

  pub same_described : bad_description image' ds ≡ bad_description image ds
  unfolding bad_description
  same_described = rw (bad_description, s.one_length)

  -- the accepted records are the old ones and the new one
  pub records_old : (r : Bytes) → Memᴰ r (accepted_records image ds) → Memᴰ r (accepted_records image' ds)
  unfolding accepted_records
  records_old r m = rw same_file_areas (stored_mem image' (file_areas image ds) r (still (stored image (file_areas image ds) r m)))
    where
      in_area : (d : Descriptor) → Memᴰ d ds → (p : Placed) → Memᴰ p (records_of image d) → Dec (d ≡ area) → Memᴰ p (records_of image' d)
      in_area d m p k (yes e) = rw (e, s.reads) (Memᴰ.append_left _ (rw e at k))
      in_area d m p k (no e) = rw (s.elsewhere d m e) k

      still : Stored image (file_areas image ds) r → Stored image' (file_areas image ds) r
      still t = record {
        area = t.area;
        listed = t.listed;
        one = t.one;
        taken_there = in_area t.area (file_listed image ds t.area t.listed) t.one t.taken_there (same_area t.area area);
        bytes_are = t.bytes_are;
      }

  pub records_new : Memᴰ area (file_areas image ds) → Memᴰ b (accepted_records image' ds)
  unfolding accepted_records
  records_new f = rw same_file_areas (stored_mem image' (file_areas image ds) b (record {
    area = area;
    listed = f;
    one = record { place = area_free record_size (area_bytes image area); bytes = b };
    taken_there = rw s.reads (Memᴰ.append_right (records_of image area) (Memᴰ.head refl));
    bytes_are = refl;
  }))

  pub records_only : (r : Bytes) → Memᴰ r (accepted_records image' ds) → (r ≡ b) ⊎ Memᴰ r (accepted_records image ds)
  unfolding accepted_records
  records_only r m = was (stored image' (file_areas image ds) r (rw same_file_areas at m))
    where
      old : (d : Descriptor) → Memᴰ d (file_areas image ds) → (p : Placed) → p.bytes ≡ r → Memᴰ p (records_of image d)
          → Memᴰ r (accepted_records image ds)
      old d f p e k = stored_mem image (file_areas image ds) r (record { area = d; listed = f; one = p; taken_there = k; bytes_are = e })

      in_area : (d : Descriptor) → Memᴰ d (file_areas image ds) → (p : Placed) → p.bytes ≡ r → Memᴰ p (records_of image' d) → Dec (d ≡ area)
          → (r ≡ b) ⊎ Memᴰ r (accepted_records image ds)
      in_area d f p e k (yes q) =
          ⊎_elim (λ k. inr (old area (rw q at f) p e k)) (λ k. inl (sym e ∙ ap (λ (x : Placed). x.bytes) (Memᴰ.eq_of_singleton k)))
          (Memᴰ.append_cases (records_of image area) (rw (q, s.reads) at k))
      in_area d f p e k (no q) = inr (old d f p e (rw (s.elsewhere d (file_listed image ds d f) q) at k))

      was : Stored image' (file_areas image ds) r → (r ≡ b) ⊎ Memᴰ r (accepted_records image ds)
      was t = in_area t.area t.listed t.one t.bytes_are t.taken_there (same_area t.area area)
