-- The whole image: headers and scratch are as they were, and each file area reads as its untouched records.
use Rattle.std.specs.Prelude.{ℕ, zero, suc, ◌+◌, ◌≤◌, ◌<◌, ◌≡◌, refl, ◌≢◌, not, length, take, drop}
use Rattle.std.proofs.Common.{sym, ap, subst, ◌∙◌, arith, length-take, length-drop, drop-drop, take-take, length-take-le, get_or-take, get_or-drop, ext_get_or}
use Rattle.std.proofs.Math.Bool.{not-not}
use mathlib.Core.List.{List, [], ◌∷◌, Memᴰ}
use Rattle.std.proofs.Math.Decide.{dec_lt}
use Rattle.std.proofs.Math.ListN.{get_or-eq_default}
use Rattle.format.specs.Bytes.{Bytes, byte_at}
use Rattle.format.specs.AreaHeader.{area_header_size, is_file_area}
use Rattle.format.specs.Record.{record_size}
use Rattle.format.specs.Reading.{Placed}
use Rattle.format_laws.specs.Reading.{records_lawful}
use Rattle.format_laws.specs.Clean.{area_clean_lem}
use Rattle.volume.specs.Lists.{keep}
use Rattle.volume_laws.specs.Tests.{stable}
use Rattle.volume_laws.specs.Lists.{keep_cong, keep_mem}
use Rattle.calls.specs.Areas.{area_end, area_bytes, file_areas, scratch_areas}
use Rattle.calls.specs.declared.Descriptor.{Descriptor}
use Rattle.calls.specs.Mount.{records_of}
use Rattle.demand3.specs.Words.{IsRecord, Within, Inside, touched, Damage, AreasKept}
use Rattle.demand3.specs.Area.{stood, Overwritten, area_kept}
use Rattle.format_laws.specs.Taken.{records_from, records_from_lem, lies}
use Rattle.calls_laws.specs.Checks.{InArea, passes, area_fits, areas_apart, header_file, header_scratch}

-- a byte of an area is the image's at its place there
area_byte : (image : Bytes) (d : Descriptor) (i : ℕ) → i < d.length → byte_at (area_bytes image d) i ≡ byte_at image (d.offset + i)
area_byte image d i h = get_or-take d.length (drop d.offset image) i 0 h ∙ get_or-drop d.offset image i 0

area_length : (image : Bytes) (d : Descriptor) → area_end d ≤ length image → length (area_bytes image d) ≡ d.length
area_length image d h = length-take-le d.length (drop d.offset image) (omega (arith, length-drop d.offset image))

-- a part of a front
part_front : (n p e : ℕ) (l : Bytes) → p + n ≤ e → take n (drop p (take e l)) ≡ take n (drop p l)
part_front n zero e l h = take-take n e l (omega arith)
part_front n (suc p) zero l h = absurd (omega arith)
part_front n (suc p) (suc e) [] h = refl
part_front n (suc p) (suc e) (x ∷ l) h = part_front n p e l (omega arith)

-- a part of an area is a part of the image
area_part : (image : Bytes) (d : Descriptor) (n p : ℕ) → p + n ≤ d.length
    → take n (drop p (area_bytes image d)) ≡ take n (drop (d.offset + p) image)
area_part image d n p h = part_front n p d.length (drop d.offset image) h ∙ rw (drop-drop p d.offset image)

module _ (xs ys : Bytes) (ds : List Descriptor) (g : Damage xs ys ds) where
  fits : (d : Descriptor) → Memᴰ d ds → (area_header_size ≤ d.length) × (area_end d ≤ length xs)
  fits = area_fits xs ds (passes xs ds g.mounts).described

  -- a file area is one of those listed
  pub listed_area : (d : Descriptor) → Memᴰ d (file_areas xs ds) → Memᴰ d ds
  unfolding file_areas
  listed_area d m = (keep_mem (λ d. is_file_area d.length (area_bytes xs d)) ds m).0

  -- a record lies in its area, behind the header
  in_area : (d : Descriptor) → Memᴰ d ds → (r : Placed) → Memᴰ r (records_of xs d)
      → (area_header_size ≤ r.place) × (r.place + length r.bytes ≤ d.length)
  in_area d m r k =
      let l = lies record_size records_lawful (area_bytes xs d) area_header_size r (rw (records_from_lem record_size (area_bytes xs d)) at k) in
      (l.later, omega (arith, l.ends, length-take d.length (drop d.offset xs)))

  -- a byte of an area that differs is in a record of that area, which is a file area
  owner : (d : Descriptor) → Memᴰ d ds → (i : ℕ) → InArea d i → byte_at xs i ≢ byte_at ys i
      → (r : Placed) × IsRecord xs ds d r × Inside d r i
  owner d m i w f =
      let t = g.inside i f in
      let a = listed_area t.0 t.2.0 in
      let h = in_area t.0 a t.1 t.2.1 in
      let k = t.3 in
      let e = areas_apart xs ds (passes xs ds g.mounts).described t.0 d a m i (omega arith, omega arith) w in
      subst (λ (d : Descriptor). (r : Placed) × IsRecord xs ds d r × Inside d r i) e (t.1, t.2, t.3)

  -- headers are as they were
  pub header_same : (d : Descriptor) → Memᴰ d ds → take area_header_size (area_bytes ys d) ≡ take area_header_size (area_bytes xs d)
  header_same d m =
      ext_get_or 0 _ _ (simp (length-take, length-drop, g.one_length))
      (λ i l. at i (omega (arith, length-take area_header_size (area_bytes ys d))))
    where
      no_differ : (i : ℕ) → i < area_header_size → ¬ (byte_at xs (d.offset + i) ≢ byte_at ys (d.offset + i))
      no_differ i l f =
          let w = fits d m in
          let t = owner d m (d.offset + i) (omega arith, omega arith) f in
          let h = in_area d m t.0 t.1.1 in
          let k = t.2 in
          omega arith

      at : (i : ℕ) → i < area_header_size → byte_at (take area_header_size (area_bytes ys d)) i ≡ byte_at (take area_header_size (area_bytes xs d)) i
      at i l =
          let w = fits d m in
          rw (
            get_or-take area_header_size (area_bytes ys d) i 0 l,
            get_or-take area_header_size (area_bytes xs d) i 0 l,
            area_byte xs d i (omega arith),
            area_byte ys d i (omega arith),
          )
          (sym (stable _ _ (no_differ i l)))

  pub same_file_areas : file_areas ys ds ≡ file_areas xs ds
  unfolding file_areas
  same_file_areas = keep_cong _ _ ds (λ d m. header_file d.length (area_bytes ys d) (area_bytes xs d) (header_same d m))

  pub same_scratch_areas : scratch_areas ys ds ≡ scratch_areas xs ds
  unfolding scratch_areas
  same_scratch_areas = keep_cong _ _ ds (λ d m. header_scratch d.length (area_bytes ys d) (area_bytes xs d) (header_same d m))

  -- touched, seen in the record's area
  touched_area : (d : Descriptor) → Memᴰ d ds → (r : Placed) → Memᴰ r (records_of xs d)
      → touched xs ys d r ≡ not (stood (area_bytes xs d) (area_bytes ys d) r)
  unfolding touched stood
  touched_area d m r k =
      let h = (in_area d m r k).1 in
      rw (area_part xs d (length r.bytes) r.place h, area_part ys d (length r.bytes) r.place h)

  overwritten : (d : Descriptor) → Memᴰ d (file_areas xs ds) → Overwritten record_size (area_bytes xs d) (area_bytes ys d) area_header_size
  overwritten d f = record {
    one_length = area_length ys d (rw g.one_length (fits d m).1) ∙ sym (area_length xs d (fits d m).1);
    inside = λ i l k. differing i k (dec_lt i d.length);
    no_new = λ r k s j w.
        let n : Memᴰ r (records_of xs d) = rw (records_from_lem record_size (area_bytes xs d)) k in
        g.no_new d r (f, n) (touched_area d m r n ∙ ap not s) j w;
  }
    where
      m : Memᴰ d ds
      m = listed_area d f

      differing : (i : ℕ) → byte_at (area_bytes xs d) i ≢ byte_at (area_bytes ys d) i → Dec (i < d.length)
          → (r : Placed) × Memᴰ r (records_from record_size (area_bytes xs d) area_header_size) × Within r i
      differing i k (yes b) =
          let t = owner d m (d.offset + i) (omega arith, omega arith) (λ q. k (rw (area_byte xs d i b, area_byte ys d i b) q)) in
          let w = t.2 in
          (t.0, rw (records_from_lem record_size (area_bytes xs d)) at t.1.1, (omega arith, omega arith))
      differing i k (no b) = absurd (k
          (get_or-eq_default (area_bytes xs d) 0 (omega (arith, length-take d.length (drop d.offset xs)))
          ∙ sym (get_or-eq_default (area_bytes ys d) 0 (omega (arith, length-take d.length (drop d.offset ys))))))

  -- "each file area reads as exactly its untouched records, in order, at their old places"
  pub reads : (d : Descriptor) → Memᴰ d (file_areas xs ds) → records_of ys d ≡ keep (λ r. not (touched xs ys d r)) (records_of xs d)
  reads d f =
      let x = records_from_lem record_size (area_bytes xs d) in
      let y = records_from_lem record_size (area_bytes ys d) in
      y
      ∙ area_kept record_size records_lawful (area_bytes xs d) (area_bytes ys d) (drop area_header_size (area_bytes xs d)) area_header_size refl
      (area_clean_lem record_size records_lawful (area_bytes xs d) (g.clean d f)) (overwritten d f)
      ∙ ap (keep (stood (area_bytes xs d) (area_bytes ys d))) (sym x)
      ∙ keep_cong _ _ (records_of xs d) (λ r m. sym (ap not (touched_area d (listed_area d f) r m) ∙ not-not _))

  pub areas_kept : AreasKept xs ys ds
  areas_kept = record { same_areas = same_file_areas; reads = reads }
