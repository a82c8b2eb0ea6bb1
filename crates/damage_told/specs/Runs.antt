-- The parts of some bytes split them: each byte before the free space is in one record or in one damage stretch.
use Rattle.std.specs.Prelude.{ℕ, zero, suc, ◌+◌, ◌-◌, ◌≤◌, ◌<◌, ◌≡◌, refl, ◌⊎◌, length, take}
use Rattle.std.proofs.Common.{inl, inr, ⊎_elim, arith, length-append}
use mathlib.Core.List.Memᴰ
use mathlib.Core.List.{List, [], ◌∷◌, ◌++◌, Memᴰ}
use Rattle.std.proofs.Math.Decide.{dec_lt}
use Rattle.format.specs.Bytes.{Bytes}
use Rattle.format.specs.Reading.{Acceptor, Part, taken, stretch, skip, parts, Placed, placed, erased_end, free_size, Stretch, damaged_bytes, damaged, total_size}
use Rattle.format_laws.specs.Reading.{passed, joined, free_taken, erased_end_le, total_damaged}
use Rattle.damage_told.specs.Words.{InStretch, Ascending, none, next, record_bytes}

-- ---- parts alternate

-- no part is empty, and no two stretches follow one another
pub data Alternate : List Part → Type 0 where
  nothing : Alternate []
  one_record : {r : Bytes} {l : List Part} → 0 < length r → Alternate l → Alternate (taken r ∷ l)
  last_stretch : {s : Bytes} → 0 < length s → Alternate (stretch s ∷ [])
  and_record : {s r : Bytes} {l : List Part} → 0 < length s → 0 < length r → Alternate l → Alternate (stretch s ∷ taken r ∷ l)

skip_alternate : (b : ℕ) {l : List Part} → Alternate l → Alternate (skip b l)
unfolding skip
skip_alternate b nothing = last_stretch {s = b ∷ []} (omega arith)
skip_alternate b (one_record h a) = and_record {s = b ∷ []} (omega arith) h a
skip_alternate b (last_stretch {s} h) = last_stretch {s = b ∷ s} (omega arith)
skip_alternate b (and_record {s} h g a) = and_record {s = b ∷ s} (omega arith) g a

pub parts_alternate : (size : Acceptor) (t : Bytes) (n : ℕ) → Alternate (parts size t n)
unfolding parts
parts_alternate size [] n = nothing
parts_alternate size (b ∷ t) (suc n) = parts_alternate size t n
parts_alternate size (b ∷ t) zero = go (size (b ∷ t)) (λ n. parts_alternate size t n)
  where
    go : (m : ℕ) → ((n : ℕ) → Alternate (parts size t n))
        → Alternate (elim m [ zero ↦ skip b (parts size t zero) | suc n ↦ taken (b ∷ take n t) ∷ parts size t n ])
    go zero ih = skip_alternate b (ih 0)
    go (suc n) ih = one_record {r = b ∷ take n t} (omega arith) (ih n)

-- ---- sums

-- records, damage and free space make up the parts
pub parts_sum : (o : ℕ) (l : List Part) → record_bytes (placed o l) + total_size (damaged o l) + free_size l ≡ length (joined l)
unfolding record_bytes placed damaged total_size free_size joined passed
parts_sum o [] = refl
parts_sum o (taken r ∷ l) = omega (arith, parts_sum (o + length r) l, free_taken [] r l, length-append r (joined l))
parts_sum o (stretch s ∷ []) = omega (arith, total_damaged o (length s - erased_end s), erased_end_le s, length-append s [])
parts_sum o (stretch s ∷ q ∷ l) = omega (arith, parts_sum (o + length s) (q ∷ l), length-append s (joined (q ∷ l)))

-- ---- the bytes from o to e

-- the byte at p is one of the records
abbrev pub InRecords : List Placed → ℕ → Type 0
InRecords rs p = (r : Placed) × Memᴰ r rs × (r.place ≤ p) × (p < r.place + length r.bytes)

abbrev pub InStretches : List Stretch → ℕ → Type 0
InStretches ds p = (d : Stretch) × Memᴰ d ds × InStretch d p

-- the bytes from o to e are those of the records rs and of the stretches ds, and no byte is of both
pub record Split (o e : ℕ) (rs : List Placed) (ds : List Stretch) : Type 0 where
  pub fits : o ≤ e
  pub records : (r : Placed) → Memᴰ r rs → (o ≤ r.place) × (r.place + length r.bytes ≤ e)
  pub stretches : (d : Stretch) → Memᴰ d ds → (o ≤ d.place) × (d.place + d.size ≤ e) × (0 < d.size)
  pub apart : (r : Placed) → Memᴰ r rs → (d : Stretch) → Memᴰ d ds
      → (d.place + d.size ≤ r.place) ⊎ (r.place + length r.bytes ≤ d.place)
  pub covers : (p : ℕ) → o ≤ p → p < e → InRecords rs p ⊎ InStretches ds p
  pub order : Ascending ds

-- a record in front
record_first : (o e : ℕ) (b : Bytes) (rs : List Placed) (ds : List Stretch) → Split (o + length b) e rs ds
    → Split o e (record { place = o; bytes = b } ∷ rs) ds
record_first o e b rs ds s = record {
  fits = omega (arith, s.fits);
  records = λ r m.
      ⊎_elim (λ q. rw q (omega arith, omega (arith, s.fits))) (λ n. let k = s.records r n in (omega (arith, k.0), k.1)) (Memᴰ.cases_cons m);
  stretches = λ d m. let k = s.stretches d m in (omega (arith, k.0), k.1, k.2);
  apart = λ r m d n. ⊎_elim (λ q. inr (rw q (s.stretches d n).0)) (λ k. s.apart r k d n) (Memᴰ.cases_cons m);
  covers = λ p h g. at p h g (dec_lt p (o + length b));
  order = s.order;
}
  where
    at : (p : ℕ) → o ≤ p → p < e → Dec (p < o + length b) → InRecords (record { place = o; bytes = b } ∷ rs) p ⊎ InStretches ds p
    at p h g (yes l) = inl (record { place = o; bytes = b }, Memᴰ.head refl, h, l)
    at p h g (no l) = ⊎_elim (λ k. inl (k.0, Memᴰ.tail k.1, k.2, k.3)) inr (s.covers p (omega arith) g)

-- n bytes of damage in front, and no damage right behind them
stretch_first : (o e n : ℕ) (rs : List Placed) (ds : List Stretch) → 0 < n → ((d : Stretch) → Memᴰ d ds → o + n < d.place)
    → Split (o + n) e rs ds → Split o e rs (record { place = o; size = n } ∷ ds)
stretch_first o e n rs ds z later s = record {
  fits = omega (arith, s.fits);
  records = λ r m. let k = s.records r m in (omega (arith, k.0), k.1);
  stretches = λ d m.
      ⊎_elim (λ q. rw q (omega arith, s.fits, z)) (λ m. let k = s.stretches d m in (omega (arith, k.0), k.1, k.2)) (Memᴰ.cases_cons m);
  apart = λ r m d k. ⊎_elim (λ q. inl (rw q (s.records r m).0)) (λ k. s.apart r m d k) (Memᴰ.cases_cons k);
  covers = λ p h g. at p h g (dec_lt p (o + n));
  order = next later s.order;
}
  where
    at : (p : ℕ) → o ≤ p → p < e → Dec (p < o + n) → InRecords rs p ⊎ InStretches (record { place = o; size = n } ∷ ds) p
    at p h g (yes l) = inr (record { place = o; size = n }, Memᴰ.head refl, (h, l))
    at p h g (no l) = ⊎_elim inl (λ k. inr (k.0, Memᴰ.tail k.1, k.2)) (s.covers p (omega arith) g)

nothing_split : (o e : ℕ) → o ≡ e → Split o e [] []
nothing_split o e q = record {
  fits = omega arith;
  records = λ r m. absurd (Memᴰ.not-nil m);
  stretches = λ d m. absurd (Memᴰ.not-nil m);
  apart = λ r m. absurd (Memᴰ.not-nil m);
  covers = λ p h g. absurd (omega arith);
  order = none;
}

last_split : (o n : ℕ) → Split o (o + n) [] (damaged_bytes o n)
unfolding damaged_bytes
last_split o zero = nothing_split o (o + 0) (omega arith)
last_split o (suc n) =
    let s = nothing_split (o + suc n) (o + suc n) refl in
    stretch_first o (o + suc n) (suc n) [] [] (omega arith) (λ d m. absurd (Memᴰ.not-nil m)) s

-- parts from place o on, whose free space starts at e
pub parts_split : {l : List Part} → Alternate l → (o e : ℕ) → e + free_size l ≡ o + length (joined l) → Split o e (placed o l) (damaged o l)
unfolding placed damaged free_size joined passed
parts_split nothing o e q = nothing_split o e (omega arith)
parts_split (one_record {r} {l} h a) o e q =
    record_first o e r (placed (o + length r) l) (damaged (o + length r) l)
    (parts_split a (o + length r) e (omega (arith, free_taken [] r l, length-append r (joined l))))
parts_split (last_stretch {s} h) o e q =
    let w : e ≡ o + (length s - erased_end s) = omega (arith, erased_end_le s, length-append s []) in
    rw w (last_split o (length s - erased_end s))
parts_split (and_record {s} {r} {l} h g a) o e q =
    let p = o + length s in
    let k = parts_split a (p + length r) e (omega (arith, free_taken [] r l, length-append s (r ++ joined l), length-append r (joined l))) in
    stretch_first o e (length s) (placed p (taken r ∷ l)) (damaged (p + length r) l) h (λ d m. omega (arith, (k.stretches d m).0))
    (record_first p e r (placed (p + length r) l) (damaged (p + length r) l) k)
