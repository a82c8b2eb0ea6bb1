-- One area, over any lawful acceptor: a record stored at the start of the free space of a clean area.
use Rattle.std.specs.Prelude.{ℕ, zero, suc, ◌+◌, ◌-◌, ◌≤◌, ◌<◌, ◌≡◌, refl, true, take, drop, get_or}
use Rattle.std.proofs.Common.{sym, ◌∙◌, inr, arith, drop_of_length-le, take_all, get_or-drop}
use Rattle.std.proofs.Math.Path.{ap}
use mathlib.Core.List.{[], ◌∷◌, ◌++◌}
use Rattle.std.proofs.Math.ListN.{length, replicate, length-drop, length-replicate}
use Rattle.std.proofs.lemmas.List.{get_or-replicate}
use Rattle.std.proofs.Math.Seq.{drop-drop, take-append_seam}
use Rattle.format.specs.Bytes.{Bytes}
use Rattle.format.specs.AreaHeader.{area_header_size}
use Rattle.format.specs.Reading.{Acceptor, ERASED, parts, free_size, area_parts, area_records, area_free, area_clean}
use Rattle.format_laws.specs.Bytes.{drop_take}
use Rattle.format_laws.specs.Reading.{Lawful, passed, parts_none, parts_take, parts_pass, free_taken, free_last}
use Rattle.format_laws.specs.Taken.{records_from, records_from_lem, from_take}
use Rattle.format_laws.specs.Clean.{Clean, free, next, erased_all, erased_records, area_clean_lem, clean_area}
use Rattle.calls.specs.Image.{put}
use Rattle.image_laws.specs.Laws.{length_put, drop_put, before_put, after_put}
use Rattle.image_laws.specs.Stores.{drop_erased}

-- the bytes of one whole record
pub record Whole (size : Acceptor) (b : Bytes) : Type 0 where
  pub some_bytes : 0 < length b
  pub all_of_it : size b ≡ length b

-- from q on, records back to back up to p, and then erased bytes
pub data Filled (size : Acceptor) (area : Bytes) : ℕ → ℕ → Type 0 where
  here : {q : ℕ} (n : ℕ) → drop q area ≡ replicate n ERASED → Filled size area q q
  past : {q p : ℕ} (n : ℕ) → size (drop q area) ≡ n → 0 < n → Filled size area (q + n) p → Filled size area q p

take_erased : (m n : ℕ) → m ≤ n → take m (replicate {A = ℕ} n ERASED) ≡ replicate m ERASED
take_erased zero n h = refl
take_erased (suc m) zero h = absurd (omega arith)
take_erased (suc m) (suc n) h = let e = take_erased m n (omega arith) in λ i. ERASED ∷ e i

module _ (size : Acceptor) (ok : Lawful size) where
  -- whatever follows it, the record is what is accepted
  pub followed : (b : Bytes) → Whole size b → (t : Bytes) → size (b ++ t) ≡ length b
  followed b w t =
      ok.local b (b ++ t) (rw w.all_of_it w.some_bytes) (rw w.all_of_it (take-append_seam b t ∙ sym (take_all (length b) b (omega arith))))
      ∙ w.all_of_it

  filled_le : (area : Bytes) {q p : ℕ} → Filled size area q p → q ≤ p
  filled_le area (here n e) = omega arith
  filled_le area (past n e h f) = let l = filled_le area f in omega arith

  -- erased bytes are free space
  erased_free : (n : ℕ) → free_size (parts size (replicate n ERASED) 0) ≡ n
  erased_free n =
      let l = length-replicate n ERASED in
      ap free_size
      (parts_pass size n (replicate n ERASED) (omega arith) (λ j h. ok.blank (drop j (replicate n ERASED)) (inr (erased_at j h)))
      ∙ rw (take_all n (replicate n ERASED) (omega arith), drop_of_length-le (replicate n ERASED) {i = n} (omega arith), parts_none size))
      ∙ free_last (replicate n ERASED)
      ∙ erased_all n
    where
      erased_at : (j : ℕ) → j < n → get_or (drop j (replicate n ERASED)) 0 0 ≡ ERASED
      erased_at j h = get_or-drop j (replicate n ERASED) 0 0 ∙ get_or-replicate n (j + 0) ERASED 0 (omega arith)

  -- so free space starts where the records end
  filled_free : (area : Bytes) {q p : ℕ} → q ≤ length area → Filled size area q p → p + free_size (parts size (drop q area) 0) ≡ length area
  unfolding passed
  filled_free area {q} l (here n e) =
      rw (e, erased_free n) (omega (arith, length-drop q area, ap length e, length-replicate n ERASED))
  filled_free area {q} {p} l (past n e h f) =
      let i = ok.inside (drop q area) in
      let t = parts_take size (drop q area) n e h (omega arith) in
      let ih = filled_free area (omega (arith, length-drop q area)) f in
      rw (t, drop-drop n q area, free_taken [] (take n (drop q area)) (parts size (drop (q + n) area) 0)) ih

  clean_filled : (area t : Bytes) (q : ℕ) → drop q area ≡ t → Clean size t → (p : ℕ) × Filled size area q p
  clean_filled area t q e (free n f) = (q, here n (e ∙ f))
  clean_filled area t q e (next h c) =
      let n = size t in
      let f = clean_filled area (drop n t) (q + n) (sym (drop-drop n q area) ∙ ap (drop n) e) c in
      (f.0, past n (ap size e) h f.1)

  filled_clean : (area : Bytes) {q p : ℕ} → Filled size area q p → Clean size (drop q area)
  filled_clean area (here n e) = free n e
  filled_clean area {q} (past n e h f) = next {t = drop q area} (rw e h) (rw (e, drop-drop n q area) (filled_clean area f))

  -- and all behind them is erased
  filled_erased : (area : Bytes) {q p : ℕ} → Filled size area q p → (n : ℕ) × (drop p area ≡ replicate n ERASED)
  filled_erased area (here n e) = (n, e)
  filled_erased area (past n e h f) = filled_erased area f

  erased_reads : (area : Bytes) (q n : ℕ) → drop q area ≡ replicate n ERASED → records_from size area q ≡ []
  erased_reads area q n e = rw e (erased_records size ok q n)

  -- the record at the start of the free space
  module _ (area b : Bytes) (w : Whole size b) (q n : ℕ) (fits : q + length b ≤ length area) (e : drop q area ≡ replicate n ERASED) where
    accepted : size (drop q (put area q b)) ≡ length b
    accepted = rw (drop_put area q b fits) (followed b w (drop (q + length b) area))

    rest : drop (q + length b) (put area q b) ≡ replicate (n - length b) ERASED
    rest =
        after_put area q b fits (q + length b) (omega arith)
        ∙ sym (drop-drop (length b) q area)
        ∙ ap (drop (length b)) e
        ∙ drop_erased (length b) n

    its_bytes : take (length b) (drop q (put area q b)) ≡ b
    its_bytes = ap (take (length b)) (drop_put area q b fits) ∙ take-append_seam b (drop (q + length b) area)

    store_here : (records_from size (put area q b) q ≡ records_from size area q ++ (record { place = q; bytes = b } ∷ []))
        × Filled size (put area q b) q (q + length b)
    store_here = (
      from_take size ok (put area q b) q (length b) accepted w.some_bytes
          ∙ (λ i. record { place = q; bytes = its_bytes i } ∷ erased_reads (put area q b) (q + length b) (n - length b) rest i)
          ∙ rw (erased_reads area q n e),
      past (length b) accepted w.some_bytes (here (n - length b) rest),
    )

  -- the records before it are taken as they were
  store_filled : (area b : Bytes) → Whole size b → {q p : ℕ} → p + length b ≤ length area → Filled size area q p
      → (records_from size (put area p b) q ≡ records_from size area q ++ (record { place = p; bytes = b } ∷ []))
      × Filled size (put area p b) q (p + length b)
  store_filled area b w {q} fits (here n e) = store_here area b w q n fits e
  store_filled area b w {q} {p} fits (past n e h f) =
      let ih = store_filled area b w fits f in
      let l = filled_le area f in
      let g : take n (drop q (put area p b)) ≡ take n (drop q area) = before n q l in
      let a : size (drop q (put area p b)) ≡ n = ok.local (drop q area) (drop q (put area p b)) (rw e h) (rw e g) ∙ e in (
        from_take size ok (put area p b) q n a h
            ∙ (λ i. record { place = q; bytes = g i } ∷ ih.0 i)
            ∙ rw (from_take size ok area q n e h),
        past n a h ih.1,
      )
    where
      before : (n q : ℕ) → q + n ≤ p → take n (drop q (put area p b)) ≡ take n (drop q area)
      before n q l =
          let m : q + n - q ≡ n = omega arith in
          rw m at (sym (drop_take q (q + n) (put area p b)) ∙ ap (drop q) (before_put area p b fits (q + n) l) ∙ drop_take q (q + n) area)

-- What becomes of a clean area
pub record AreaStored (size : Acceptor) (area area' b : Bytes) : Type 0 where
  pub one_length : length area' ≡ length area
  pub header : take area_header_size area' ≡ take area_header_size area
  -- it reads as its old records followed by the new one
  pub reads : area_records size area' ≡ area_records size area ++ (record { place = area_free size area; bytes = b } ∷ [])
  pub clean : area_clean size area' ≡ true
  pub free : area_free size area' ≡ area_free size area + length b
  -- the bytes that it takes were erased
  pub over_erased : take (length b) (drop (area_free size area) area) ≡ replicate (length b) ERASED

module _ (size : Acceptor) (ok : Lawful size) (area : Bytes) (headed : area_header_size ≤ length area) (c : area_clean size area ≡ true) where
  filled : (p : ℕ) × Filled size area area_header_size p
  filled = clean_filled size ok area (drop area_header_size area) area_header_size refl (area_clean_lem size ok area c)

  starts : filled.0 ≡ area_free size area
  unfolding area_free area_parts
  starts = omega (arith, filled_free size ok area headed filled.1)

  -- free space starts behind the header
  pub free_behind : area_header_size ≤ area_free size area
  free_behind = omega (arith, starts, filled_le size ok area filled.1)

  pub area_stored : (b : Bytes) → Whole size b → area_free size area + length b ≤ length area
      → AreaStored size area (put area (area_free size area) b) b
  unfolding area_free area_parts
  area_stored b w room =
      let f = rw starts at filled.1 in
      let s = store_filled size ok area b w room f in
      let l = length_put area (area_free size area) b room in
      record {
        one_length = l;
        header = before_put area (area_free size area) b room area_header_size free_behind;
        reads = records_from_lem size (put area (area_free size area) b) ∙ s.0 ∙ rw (records_from_lem size area);
        clean = clean_area size ok (put area (area_free size area) b) (filled_clean size ok (put area (area_free size area) b) s.1);
        free = let g = filled_free size ok (put area (area_free size area) b) (omega arith) s.1 in omega (arith, g, l);
        over_erased = rw erased_there.1 (take_erased (length b) erased_there.0 (omega (arith, erased_long, room)));
      }
    where
      erased_there : (n : ℕ) × (drop (area_free size area) area ≡ replicate n ERASED)
      erased_there = filled_erased size ok area (rw starts at filled.1)

      erased_long : length area - area_free size area ≡ erased_there.0
      erased_long = sym (length-drop (area_free size area) area) ∙ ap length erased_there.1 ∙ length-replicate erased_there.0 ERASED

-- An area that is erased behind its header
module _ (size : Acceptor) (ok : Lawful size) (area : Bytes) (n : ℕ) (headed : area_header_size ≤ length area)
    (e : drop area_header_size area ≡ replicate n ERASED) where
  pub erased_clean : area_clean size area ≡ true
  erased_clean = clean_area size ok area (free n e)

  pub erased_starts : area_free size area ≡ area_header_size
  unfolding area_free area_parts
  erased_starts = omega (arith, filled_free size ok area headed (here n e))

  pub erased_empty : area_records size area ≡ []
  erased_empty = records_from_lem size area ∙ erased_reads size ok area area_header_size n e
