-- The image after a collection: the scratch area holds the copies and is a file area, the source is erased and is scratch, and the others stay.
use Rattle.std.specs.Prelude.{ℕ, ◌+◌, ◌-◌, ◌^◌, ◌≤◌, ◌<◌, ◌≡◌, refl, ◌⊎◌, ◌≢◌, true, false, not, drop, eqb}
use Rattle.std.proofs.Common.{sym, ◌∙◌, inl, inr, eqb-true}
use Rattle.std.proofs.Math.Path.{ap}
use Rattle.std.proofs.Math.Option.{Option, none, some}
use mathlib.Core.List.{List, [], ◌∷◌, ◌++◌, Memᴰ}
use native.Mathlib.Omega.{arith}
use Rattle.std.proofs.Math.ListN.{length, take, length-append, get_or-append}
use Rattle.std.proofs.Math.Seq.{drop_at, length-take-le, get_or-take}
use Rattle.std.proofs.Math.Dec.{T, eqb_refl, T_not}
use Rattle.format.specs.Bytes.{Bytes, byte_at}
use Rattle.format.specs.AreaHeader.{area_header_size, area_id, collection_count, scratch_id, valid_header, is_file_area, is_scratch}
use Rattle.format.specs.Record.{record_size}
use Rattle.format.specs.Reading.{Placed, area_clean}
use Rattle.format_laws.specs.Crc.{Octets}
use Rattle.format_laws.specs.Encoding.{octets_none, octets_cons}
use Rattle.format_laws.specs.Octets.{octets_take, octets_drop, octets_append}
use Rattle.format_laws.specs.Reading.{records_lawful}
use Rattle.volume.specs.Lists.{keep}
use Rattle.volume_laws.specs.Tests.{true→T, T→true, not_T→false, and_T, not_is_false, or_is_false, T_other}
use Rattle.volume_laws.specs.Lists.{keep_mem, mem_keep}
use Rattle.calls.specs.Image.{put}
use Rattle.calls.specs.Areas.{area_end, area_bytes, file_areas, scratch_areas}
use Rattle.calls.specs.Mount.{records_of, bytes_of, records_in, accepted_records, volume, wrong_areas, mount_number}
use Rattle.calls.specs.Format.{empty_area}
use Rattle.calls.specs.Collect.{count_of, eligible, source_of, is_other, records_elsewhere, copies, copied_records, next_count, collected}
use Rattle.calls.specs.Attempt.{goes, number_of}
use Rattle.calls.specs.Collect.{collect_from, collect_with, collecting, collect_of}
use Rattle.calls.specs.declared.Descriptor.{Descriptor}
use Rattle.calls_laws.specs.Checks.{Passes, passes, InArea, area_fits, areas_apart}
use Rattle.calls_laws.specs.Attempt.{unless_goes}
use Rattle.calls_laws.specs.Records.{Stored, stored, stored_mem}
use Rattle.image_laws.specs.Apart.{Apart}
use Rattle.image_laws.specs.Laws.{length_put, part_put, part_outside, byte_outside}
use Rattle.image_laws.specs.Stores.{joined_bytes}
use Rattle.collect_laws.specs.Source.{IsSource}
use Rattle.collect_laws.proofs.Source.{source_found}
use Rattle.collect_laws.specs.Header.{header_with_id, renamed_size, renamed_id, renamed_file}
use Rattle.collect_laws.specs.Stores.{filled_scratch, filled_long}
use Rattle.collect_laws.proofs.Mounted.{scratch_is, file_is, copied_survive, copied_fit, collected_is}
use Rattle.demand2.proofs.Store.{same_area, area_length}
use Rattle.demand2.proofs.Places.{area_lengths}
use Rattle.demand2.specs.Octet.{octets_erased, octets_put, record_octets}
use Rattle.demand2.proofs.Format.{empty_length, empty_scratch, octets_empty}
use Rattle.demand2_collect.specs.Copies.{Moved}
use Rattle.demand2_collect.specs.Filled.{reads_back}

-- ---- what an accepted collect found

-- the scratch area, and the source that the rules choose
pub record CollectGoes (image : Bytes) (ds : List Descriptor) : Type 0 where
  pub mounted : mount_number image ds ≡ 0
  pub scratch : Descriptor
  pub source : Descriptor
  pub one_scratch : scratch_areas image ds ≡ scratch ∷ []
  pub source_is : source_of image (file_areas image ds) scratch ≡ some source
  pub goes : collecting image ds ≡ goes (scratch, source)

pub collect_goes : (image : Bytes) (ds : List Descriptor) → collect_of image ds ≡ 0 → CollectGoes image ds
unfolding collect_of collecting wrong_areas
collect_goes image ds e =
    let u = unless_goes (mount_number image ds) (collect_with image (file_areas image ds) (scratch_areas image ds)) e in
    alone (scratch_areas image ds) refl u.0 u.1
  where
    from : (t : Descriptor) → mount_number image ds ≡ 0 → scratch_areas image ds ≡ t ∷ [] → (o : Option Descriptor)
        → source_of image (file_areas image ds) t ≡ o
        → number_of (collect_from t o) ≡ 0 → CollectGoes image ds
    from t m w none q z = absurd (omega arith)
    from t m w (some s) q z = record { mounted = m; scratch = t; source = s; one_scratch = w; source_is = q; goes = rw (collecting, m, w, q) }

    -- check 3: exactly one
    alone : (ss : List Descriptor) → scratch_areas image ds ≡ ss → mount_number image ds ≡ 0
        → number_of (collect_with image (file_areas image ds) ss) ≡ 0
        → CollectGoes image ds
    alone [] w m z = absurd (omega arith)
    alone (t ∷ []) w m z = from t m w (source_of image (file_areas image ds) t) refl z
    alone (t ∷ u ∷ ss) w m z =
        let o = or_is_false (eqb (length (file_areas image ds)) 0) (not (eqb (length (scratch_areas image ds)) 1)) (passes image ds m).areas in
        let c = not_is_false (eqb (length (scratch_areas image ds)) 1) o.1 in
        let n = eqb-true (length (scratch_areas image ds)) 1 c in
        absurd (omega (arith, n, ap length w))

-- ---- headers

-- no area is both
pub not_both : (n : ℕ) (h : Bytes) → is_file_area n h ≡ true → is_scratch n h ≡ true → ⊥
unfolding is_file_area is_scratch
not_both n h a b =
    T_not (eqb (area_id h) scratch_id) (and_T (valid_header n h) (not (eqb (area_id h) scratch_id)) (true→T a)).1
    (and_T (valid_header n h) (eqb (area_id h) scratch_id) (true→T b)).1

-- ---- the two areas, and the others

-- what a collection of s into t makes of the image
pub record ImageCollected (image : Bytes) (ds : List Descriptor) (t s : Descriptor) : Type 0 where
  pub one_length : length (collected image ds t s) ≡ length image
  pub outside : (i : ℕ) → ¬ InArea t i → ¬ InArea s i → byte_at (collected image ds t s) i ≡ byte_at image i
  pub elsewhere : (d : Descriptor) → Memᴰ d ds → d ≢ t → d ≢ s → area_bytes (collected image ds t s) d ≡ area_bytes image d
  -- the former scratch area: its header with the source's id, the copies, and FF
  pub filled : area_bytes (collected image ds t s) t
      ≡ filled_scratch image t (area_id (area_bytes image s)) (joined_bytes (copied_records image ds s))
  pub takes_id : area_id (area_bytes (collected image ds t s) t) ≡ area_id (area_bytes image s)
  pub keeps_count : count_of (collected image ds t s) t ≡ count_of image t
  pub copied : bytes_of (records_of (collected image ds t s) t)
      ≡ copies (volume image ds) (bytes_of (records_of image s)) (records_elsewhere image (file_areas image ds) s)
  pub clean : area_clean record_size (area_bytes (collected image ds t s) t) ≡ true
  pub now_file : Memᴰ t (file_areas (collected image ds t s) ds)
  pub files : (d : Descriptor) → Memᴰ d (file_areas (collected image ds t s) ds)
      → (d ≡ t) ⊎ (Memᴰ d (file_areas image ds) × (d ≢ s) × (d ≢ t))
  pub still_files : (d : Descriptor) → Memᴰ d (file_areas image ds) → d ≢ s → Memᴰ d (file_areas (collected image ds t s) ds)
  -- the former source
  pub emptied : area_bytes (collected image ds t s) s ≡ empty_area s.length (next_count (count_of image s)) scratch_id
  pub now_scratch : Memᴰ s (scratch_areas (collected image ds t s) ds)
  pub only_scratch : (d : Descriptor) → Memᴰ d (scratch_areas (collected image ds t s) ds) → d ≡ s
  -- the records
  pub moved : Moved (accepted_records image ds) (accepted_records (collected image ds t s) ds) (bytes_of (records_of image s))
      (records_elsewhere image (file_areas image ds) s) (copied_records image ds s)
  pub octets : Octets image → Octets (collected image ds t s)

module _ (image : Bytes) (ds : List Descriptor) (p : Passes image ds) (t s : Descriptor) (one_scratch : scratch_areas image ds ≡ t ∷ [])
    (source_is : source_of image (file_areas image ds) t ≡ some s) where
  scratch_in : Memᴰ t ds × (is_scratch t.length (area_bytes image t) ≡ true)
  scratch_in = scratch_is image ds t one_scratch

  is_file_lem : (d : Descriptor) → Memᴰ d (file_areas image ds) → Memᴰ d ds × (is_file_area d.length (area_bytes image d) ≡ true)
  is_file_lem = file_is image ds

  source : Memᴰ s (file_areas image ds) × (s.length ≡ t.length) × IsSource image (eligible (file_areas image ds) t) s
  source = source_found image (file_areas image ds) t s source_is

  source_in : Memᴰ s ds
  source_in = (is_file_lem s source.0).0

  two : t ≢ s
  two e = not_both t.length (area_bytes image t) (rw (sym e) at (is_file_lem s source.0).1) scratch_in.1

  fits : (d : Descriptor) → Memᴰ d ds → (area_header_size ≤ d.length) × (area_end d ≤ length image)
  fits = area_fits image ds p.described

  apart : (d e : Descriptor) → Memᴰ d ds → Memᴰ e ds → d ≢ e → Apart d.offset d.length e.offset e.length
  apart d e m n q = record {
    no_common = λ i j f g z. q
        (areas_apart image ds p.described d e m n (d.offset + i) (omega arith, omega arith) (omega arith, omega arith));
  }

  -- the records
  abbrev source_records : List Bytes
  source_records = bytes_of (records_of image s)

  abbrev elsewhere : List Bytes
  elsewhere = records_elsewhere image (file_areas image ds) s

  abbrev kept : List Bytes
  kept = copied_records image ds s

  abbrev filled : Bytes
  filled = filled_scratch image t (area_id (area_bytes image s)) (joined_bytes kept)

  abbrev emptied : Bytes
  emptied = empty_area s.length (next_count (count_of image s)) scratch_id

  head_long : area_header_size ≤ length (area_bytes image t)
  head_long = omega (arith, area_length image t (fits t scratch_in.0).1, (fits t scratch_in.0).0)

  filled_length : length filled ≡ t.length
  filled_length =
      filled_long image t (fits t scratch_in.0).0 (fits t scratch_in.0).1 (area_id (area_bytes image s)) (joined_bytes kept)
      (copied_fit image ds p t s one_scratch source_is)

  emptied_length : length emptied ≡ s.length
  emptied_length = empty_length s.length (next_count (count_of image s)) scratch_id (fits s source_in).0

  abbrev image₁ : Bytes
  image₁ = put image t.offset filled

  abbrev image' : Bytes
  image' = collected image ds t s

  fits₁ : t.offset + length filled ≤ length image
  fits₁ = omega (arith, filled_length, (fits t scratch_in.0).1)

  long₁ : length image₁ ≡ length image
  long₁ = length_put image t.offset filled fits₁

  fits₂ : s.offset + length emptied ≤ length image₁
  fits₂ = omega (arith, emptied_length, (fits s source_in).1, long₁)

  -- the two areas, each written whole
  puts : image' ≡ put image₁ s.offset emptied
  puts = collected_is image ds p t s one_scratch source_is

  one_length : length image' ≡ length image
  one_length = ap length puts ∙ length_put image₁ s.offset emptied fits₂ ∙ long₁

  scratch_bytes : area_bytes image' t ≡ filled
  scratch_bytes =
      ap (λ (x : Bytes). area_bytes x t) puts
      ∙ part_outside image₁ s.offset emptied fits₂ t.offset t.length (rw emptied_length (apart t s scratch_in.0 source_in two))
      ∙ (rw filled_length at (part_put image t.offset filled fits₁))

  source_bytes : area_bytes image' s ≡ emptied
  source_bytes = ap (λ (x : Bytes). area_bytes x s) puts ∙ (rw emptied_length at (part_put image₁ s.offset emptied fits₂))

  -- "every byte outside the two areas"
  other_bytes : (d : Descriptor) → Memᴰ d ds → d ≢ t → d ≢ s → area_bytes image' d ≡ area_bytes image d
  other_bytes d m a b =
      ap (λ (x : Bytes). area_bytes x d) puts
      ∙ part_outside image₁ s.offset emptied fits₂ d.offset d.length (rw emptied_length (apart d s m source_in b))
      ∙ part_outside image t.offset filled fits₁ d.offset d.length (rw filled_length (apart d t m scratch_in.0 a))

  outside : (i : ℕ) → ¬ InArea t i → ¬ InArea s i → byte_at image' i ≡ byte_at image i
  outside i a b =
      ap (λ (x : Bytes). byte_at x i) puts
      ∙ byte_outside image₁ s.offset emptied fits₂ i (λ j f e. b (omega arith, omega (arith, emptied_length)))
      ∙ byte_outside image t.offset filled fits₁ i (λ j f e. a (omega arith, omega (arith, filled_length)))

  -- ---- kinds of areas

  low : s.length < 2 ^ 32
  low = omega (arith, (area_lengths image ds p.described s source_in).1)

  source_id : eqb (area_id (area_bytes image s)) scratch_id ≡ false
  unfolding is_file_area
  source_id = not_T→false (T_not (eqb (area_id (area_bytes image s)) scratch_id)
      (and_T (valid_header s.length (area_bytes image s)) (not (eqb (area_id (area_bytes image s)) scratch_id)) (true→T (is_file_lem s source.0).1)).1)

  -- "Scratch takes the source's id"
  takes_id : area_id (area_bytes image' t) ≡ area_id (area_bytes image s)
  unfolding filled_scratch
  takes_id = ap area_id scratch_bytes ∙ renamed_id (area_bytes image t) (area_id (area_bytes image s)) head_long _

  -- and keeps its own count
  keeps_count : count_of image' t ≡ count_of image t
  unfolding filled_scratch header_with_id
  keeps_count =
      let front = take 23 (area_bytes image t) in
      let l : length front ≡ 23 = length-take-le 23 (area_bytes image t) (omega (arith, head_long)) in
      let id = area_id (area_bytes image s) in
      ap collection_count scratch_bytes
      ∙ get_or-append (front ++ (id ∷ [])) _ 0 21 (omega (arith, l, length-append front (id ∷ [])))
      ∙ get_or-append front (id ∷ []) 0 21 (omega (arith, l))
      ∙ get_or-take 23 (area_bytes image t) 21 0 (omega arith)

  now_file : is_file_area t.length (area_bytes image' t) ≡ true
  unfolding filled_scratch
  now_file = rw scratch_bytes (renamed_file (area_bytes image t) (area_id (area_bytes image s)) head_long _ t.length scratch_in.1 source_id)

  now_scratch : is_scratch s.length (area_bytes image' s) ≡ true
  now_scratch = rw source_bytes (empty_scratch s.length (next_count (count_of image s)) scratch_id low)

  -- the file areas afterwards: the old ones but the source, and the former scratch area
  file_after : (d : Descriptor) → Memᴰ d (file_areas image' ds) → (d ≡ t) ⊎ (Memᴰ d (file_areas image ds) × (d ≢ s) × (d ≢ t))
  unfolding file_areas
  file_after d m = go (same_area d t)
    where
      k : Memᴰ d ds × T (is_file_area d.length (area_bytes image' d))
      k = keep_mem (λ d. is_file_area d.length (area_bytes image' d)) ds m

      not_source : d ≢ s
      not_source e = not_both s.length (area_bytes image' s) (T→true (rw e at k.1)) now_scratch

      go : Dec (d ≡ t) → (d ≡ t) ⊎ (Memᴰ d (keep (λ d. is_file_area d.length (area_bytes image d)) ds) × (d ≢ s) × (d ≢ t))
      go (yes e) = inl e
      go (no e) = inr (
        mem_keep (λ d. is_file_area d.length (area_bytes image d)) ds k.0 (rw (other_bytes d k.0 e not_source) at k.1),
        not_source,
        e,
      )

  file_still : (d : Descriptor) → Memᴰ d (file_areas image ds) → d ≢ s → Memᴰ d (file_areas image' ds)
  unfolding file_areas
  file_still d m n =
      let k = is_file_lem d m in
      let a : d ≢ t = λ e. not_both t.length (area_bytes image t) (rw e at k.1) scratch_in.1 in
      mem_keep (λ d. is_file_area d.length (area_bytes image' d)) ds k.0 (rw (other_bytes d k.0 a n) (true→T k.1))

  scratch_file : Memᴰ t (file_areas image' ds)
  unfolding file_areas
  scratch_file = mem_keep (λ d. is_file_area d.length (area_bytes image' d)) ds scratch_in.0 (true→T now_file)

  source_scratch : Memᴰ s (scratch_areas image' ds)
  unfolding scratch_areas
  source_scratch = mem_keep (λ d. is_scratch d.length (area_bytes image' d)) ds source_in (true→T now_scratch)

  only_scratch : (d : Descriptor) → Memᴰ d (scratch_areas image' ds) → d ≡ s
  unfolding scratch_areas
  only_scratch d m = go (same_area d s) (same_area d t)
    where
      k : Memᴰ d ds × T (is_scratch d.length (area_bytes image' d))
      k = keep_mem (λ d. is_scratch d.length (area_bytes image' d)) ds m

      go : Dec (d ≡ s) → Dec (d ≡ t) → d ≡ s
      go (yes e) b = e
      go (no e) (yes q) = absurd (not_both t.length (area_bytes image' t) now_file (T→true (rw q at k.1)))
      go (no e) (no q) =
          let m : Memᴰ d (scratch_areas image ds) = mem_keep (λ d. is_scratch d.length (area_bytes image d)) ds k.0
          (rw (other_bytes d k.0 q e) at k.1) in
          absurd (q (mathlib.Core.List.Memᴰ.eq_of_singleton (rw one_scratch at m)))

  -- ---- records

  -- the former scratch area reads as the copies, and is clean
  reads_copies : (bytes_of (records_of image' t) ≡ kept) × (area_clean record_size (area_bytes image' t) ≡ true)
  unfolding filled_scratch
  reads_copies =
      reads_back record_size records_lawful kept
      (λ c m. record { some_bytes = (copied_survive image ds s).some_bytes c m; all_of_it = (copied_survive image ds s).accepted c m })
      (area_bytes image' t) (t.length - (area_header_size + length (joined_bytes kept)))
      (ap (drop area_header_size) scratch_bytes
      ∙ drop_at (header_with_id (area_bytes image t) (area_id (area_bytes image s))) _ area_header_size
      (renamed_size (area_bytes image t) (area_id (area_bytes image s)) head_long))

  clean_copies : area_clean record_size (area_bytes image' t) ≡ true
  clean_copies = reads_copies.1

  read_copies : bytes_of (records_of image' t) ≡ kept
  read_copies = reads_copies.0

  -- the test for another area than the source
  other_area : (d : Descriptor) → Memᴰ d ds → d ≢ s → T (is_other s d)
  unfolding is_other
  other_area d m n = T_other s.offset d.offset (λ e. n (sym (areas_apart image ds p.described s d source_in m s.offset
      (omega (arith, (fits s source_in).0), omega (arith, (fits s source_in).0)) (omega arith, omega (arith, (fits d m).0)))))

  area_other : (d : Descriptor) → T (is_other s d) → d ≢ s
  unfolding is_other
  area_other d t e = T_not (eqb s.offset d.offset) t (rw e (eqb_refl s.offset))

  moved : Moved (accepted_records image ds) (accepted_records image' ds) source_records elsewhere kept
  unfolding volume accepted_records records_elsewhere
  moved = record {
    was = λ b m. before b (stored image (file_areas image ds) b m);
    source_was = λ b m. let r = mathlib.Core.List.Memᴰ.of_map (λ (x : Placed). x.bytes) (records_of image s) m in in_area image (file_areas image ds) s b source.0
        r.0 r.1 r.2;
    others_were = λ b m. let r = stored image (keep (is_other s) (file_areas image ds)) b m in
        in_area image (file_areas image ds) r.area b (keep_mem (is_other s) (file_areas image ds) r.listed).0 r.one r.taken_there
        r.bytes_are;
    is = λ b m. after b (stored image' (file_areas image' ds) b m);
    copies_are = λ b m. let k : Memᴰ b (bytes_of (records_of image' t)) = rw read_copies m in
        let r = mathlib.Core.List.Memᴰ.of_map (λ (x : Placed). x.bytes) (records_of image' t) k in
        in_area image' (file_areas image' ds) t b scratch_file r.0 r.1 r.2;
    others_are = λ b m. still b (stored image (keep (is_other s) (file_areas image ds)) b m);
  }
    where
      in_area : (x : Bytes) (fs : List Descriptor) (d : Descriptor) (b : Bytes) → Memᴰ d fs → (o : Placed) → Memᴰ o (records_of x d)
          → o.bytes ≡ b
          → Memᴰ b (records_in x fs)
      in_area x fs d b f o k e = stored_mem x fs b (record { area = d; listed = f; one = o; taken_there = k; bytes_are = e })

      other : (d : Descriptor) (b : Bytes) → Memᴰ d (file_areas image ds) → d ≢ s → (o : Placed) → Memᴰ o (records_of image d) → o.bytes ≡ b
          → Memᴰ b (records_in image (keep (is_other s) (file_areas image ds)))
      other d b f n o k e = in_area image (keep (is_other s) (file_areas image ds)) d b
          (mem_keep (is_other s) (file_areas image ds) f (other_area d (is_file_lem d f).0 n)) o k e

      before : (b : Bytes) → Stored image (file_areas image ds) b
          → Memᴰ b source_records ⊎ Memᴰ b (records_in image (keep (is_other s) (file_areas image ds)))
      before b r = go r.area r.listed r.taken_there (same_area r.area s)
        where
          go : (d : Descriptor) → Memᴰ d (file_areas image ds) → Memᴰ r.one (records_of image d) → Dec (d ≡ s)
              → Memᴰ b source_records ⊎ Memᴰ b (records_in image (keep (is_other s) (file_areas image ds)))
          go d f k (yes e) = inl (mathlib.Core.List.Memᴰ.cast (sym r.bytes_are) (mathlib.Core.List.Memᴰ.map (λ (x : Placed). x.bytes) (rw e at k)))
          go d f k (no e) = inr (other d b f e r.one k r.bytes_are)

      after : (b : Bytes) → Stored image' (file_areas image' ds) b
          → Memᴰ b kept ⊎ Memᴰ b (records_in image (keep (is_other s) (file_areas image ds)))
      after b r = go r.area r.taken_there (file_after r.area r.listed)
        where
          go : (d : Descriptor) → Memᴰ r.one (records_of image' d) → (d ≡ t) ⊎ (Memᴰ d (file_areas image ds) × (d ≢ s) × (d ≢ t))
              → Memᴰ b kept ⊎ Memᴰ b (records_in image (keep (is_other s) (file_areas image ds)))
          go d k (inl e) = inl (rw read_copies at (mathlib.Core.List.Memᴰ.cast (sym r.bytes_are) (mathlib.Core.List.Memᴰ.map (λ (x : Placed). x.bytes) (rw e at k))))
          go d k (inr h) = inr (other d b h.0 h.1 r.one (rw (other_bytes d (is_file_lem d h.0).0 h.2 h.1) at k) r.bytes_are)

      still : (b : Bytes) → Stored image (keep (is_other s) (file_areas image ds)) b → Memᴰ b (records_in image' (file_areas image' ds))
      still b r =
          let k = keep_mem (is_other s) (file_areas image ds) r.listed in
          let n = area_other r.area k.1 in
          let f = is_file_lem r.area k.0 in
          let a : r.area ≢ t = λ e. not_both t.length (area_bytes image t) (rw e at f.1) scratch_in.1 in
          let q : area_bytes image' r.area ≡ area_bytes image r.area = other_bytes r.area f.0 a n in
          in_area image' (file_areas image' ds) r.area b (file_still r.area k.0 n) r.one (rw q r.taken_there) r.bytes_are

  -- bytes stay bytes
  octets_joined : (bs : List Bytes) → ((b : Bytes) → Memᴰ b bs → Octets b) → Octets (joined_bytes bs)
  unfolding joined_bytes
  octets_joined [] h = octets_none
  octets_joined (b ∷ bs) h = octets_append b (joined_bytes bs) (h b (mathlib.Core.List.Memᴰ.head refl)) (octets_joined bs (λ c m. h c (mathlib.Core.List.Memᴰ.tail m)))

  octets_area : (d : Descriptor) → Octets image → Octets (area_bytes image d)
  octets_area d o = octets_take d.length (drop d.offset image) (octets_drop d.offset image o)

  octets_after : Octets image → Octets image'
  unfolding filled_scratch header_with_id next_count
  octets_after o =
      let id_low : area_id (area_bytes image s) < 256
      = (octets_area s o).at 23 (omega (arith, area_length image s (fits s source_in).1, (fits s source_in).0)) in
      rw puts (octets_put image₁ s.offset emptied
      (octets_put image t.offset filled o
      (octets_append (header_with_id (area_bytes image t) (area_id (area_bytes image s))) _
      (octets_append (take 23 (area_bytes image t)) _ (octets_take 23 (area_bytes image t) (octets_area t o)) (octets_cons _ id_low octets_none))
      (octets_append (joined_bytes kept) _
      (octets_joined kept (λ b m. record_octets image ds o b (moved.source_was b ((copied_survive image ds s).from_source b m))))
      (octets_erased (t.length - (area_header_size + length (joined_bytes kept)))))))
      (octets_empty s.length (next_count (count_of image s)) scratch_id (omega arith) (omega arith)))

  pub image_collected_lem : ImageCollected image ds t s
  image_collected_lem = record {
    one_length = one_length;
    outside = outside;
    elsewhere = other_bytes;
    filled = scratch_bytes;
    takes_id = takes_id;
    keeps_count = keeps_count;
    copied = read_copies;
    clean = clean_copies;
    now_file = scratch_file;
    files = file_after;
    still_files = file_still;
    emptied = source_bytes;
    now_scratch = source_scratch;
    only_scratch = only_scratch;
    moved = moved;
    octets = octets_after;
  }
