-- The records that reading takes, place by place, over any lawful acceptor.
use Rattle.std.specs.Prelude.{ℕ, zero, suc, ◌+◌, ◌≤◌, ◌<◌, ◌≡◌, refl, length, take, drop}
use Rattle.std.proofs.Common.{sym, ap, ◌∙◌, ⊎_elim, arith, length-drop, drop_of_length-le, drop-drop, length-take-le}
use mathlib.Core.List.Memᴰ
use mathlib.Core.List.{List, [], ◌∷◌, Memᴰ}
use Rattle.std.proofs.Math.Decide.{dec_lt}
use Rattle.format.specs.Bytes.{Bytes}
use Rattle.format.specs.AreaHeader.{area_header_size}
use Rattle.format.specs.Reading.{Acceptor, parts, Placed, placed, area_parts, area_records}
use Rattle.format_laws.specs.Reading.{Lawful, parts_none, parts_take, parts_pass, placed_taken, placed_passed, placed_none}

-- the records taken from place p of an area on
abbrev pub records_from : Acceptor → Bytes → ℕ → List Placed
records_from size area p = placed p (parts size (drop p area) 0)

pub records_from_lem : (size : Acceptor) (area : Bytes) → area_records size area ≡ records_from size area area_header_size
unfolding area_records area_parts
records_from_lem size area = refl

-- the record of n bytes at p
abbrev pub record_at : Bytes → ℕ → ℕ → Placed
record_at area p n = record { place = p; bytes = take n (drop p area) }

-- r is the acceptable record at its place, which is p or later
pub record Taken (size : Acceptor) (area : Bytes) (p : ℕ) (r : Placed) : Type 0 where
  pub later : p ≤ r.place
  pub accepted : 0 < size (drop r.place area)
  pub is : r.bytes ≡ take (size (drop r.place area)) (drop r.place area)

module _ (size : Acceptor) (ok : Lawful size) where
  pub past_end : (area : Bytes) (p : ℕ) → length area ≤ p → records_from size area p ≡ []
  past_end area p h = rw (drop_of_length-le area h, parts_none size) (placed_none p)

  -- a record at p is taken, and reading goes on at its end
  pub from_take : (area : Bytes) (p n : ℕ) → size (drop p area) ≡ n → 0 < n → records_from size area p ≡ record_at area p n ∷ records_from size area (p + n)
  from_take area p n e h =
      let l : n ≤ length (drop p area) = omega (arith, ok.inside (drop p area)) in
      ap (placed p) (parts_take size (drop p area) n e h l)
      ∙ placed_taken p (take n (drop p area)) (parts size (drop n (drop p area)) 0)
      ∙ rw (length-take-le n (drop p area) l, drop-drop n p area)

  -- n bytes at which nothing starts are passed over
  pub from_none : (area : Bytes) (p n : ℕ) → p + n ≤ length area → ((j : ℕ) → j < n → size (drop (p + j) area) ≡ 0)
      → records_from size area p ≡ records_from size area (p + n)
  from_none area p n h z =
      let l : n ≤ length (drop p area) = omega (arith, length-drop p area) in
      ap (placed p) (parts_pass size n (drop p area) l (λ j g. rw (drop-drop j p area) (z j g)))
      ∙ placed_passed p (take n (drop p area)) (parts size (drop n (drop p area)) 0)
      ∙ rw (length-take-le n (drop p area) l, drop-drop n p area)

  -- what is taken is what the acceptor says at its place
  each : (area : Bytes) (k p : ℕ) → length area ≤ p + k → (r : Placed) → Memᴰ r (records_from size area p) → Taken size area p r
  each area zero p h r m = absurd (Memᴰ.not-nil (rw (past_end area p (omega arith)) at m))
  each area (suc k) p h r m = go (dec_lt p (length area)) (size (drop p area)) refl (λ q. each area k q)
    where
      before : (q : ℕ) → p ≤ q → Taken size area q r → Taken size area p r
      before q l t = record { later = omega (arith, t.later); accepted = t.accepted; is = t.is }

      head : (n : ℕ) → size (drop p area) ≡ suc n → r ≡ record_at area p (suc n) → Taken size area p r
      head n e q = rw q (record { later = omega arith; accepted = omega arith; is = rw e refl })

      go : Dec (p < length area) → (n : ℕ) → size (drop p area) ≡ n
          → ((q : ℕ) → length area ≤ q + k → (r : Placed) → Memᴰ r (records_from size area q) → Taken size area q r) → Taken size area p r
      go (no l) n e ih = absurd (Memᴰ.not-nil (rw (past_end area p (omega arith)) at m))
      go (yes l) zero e ih =
          let none : (j : ℕ) → j < 1 → size (drop (p + j) area) ≡ 0 = λ j g. let q : p + j ≡ p = omega arith in rw q e in
          before (p + 1) (omega arith) (ih (p + 1) (omega arith) r (rw (from_none area p 1 (omega arith) none) at m))
      go (yes l) (suc n) e ih = ⊎_elim (head n e) (λ k. before (p + suc n) (omega arith) (ih (p + suc n) (omega arith) r k))
          (Memᴰ.cases_cons (rw (from_take area p (suc n) e (omega arith)) at m))

  pub from_each : (area : Bytes) (p : ℕ) (r : Placed) → Memᴰ r (records_from size area p) → Taken size area p r
  from_each area p r m = each area (length area) p (omega arith) r m

  -- a record lies in the area, at its place or later, and its bytes are the area's there
  pub record Lies (area : Bytes) (p : ℕ) (r : Placed) : Type 0 where
    pub later : p ≤ r.place
    pub some_bytes : 0 < length r.bytes
    pub ends : r.place + length r.bytes ≤ length area
    pub bytes_are : take (length r.bytes) (drop r.place area) ≡ r.bytes

  pub lies : (area : Bytes) (p : ℕ) (r : Placed) → Memᴰ r (records_from size area p) → Lies area p r
  lies area p r m = record {
    later = t.later;
    some_bytes = omega (arith, long, t.accepted);
    ends = omega (arith, long, i, t.accepted, length-drop r.place area);
    bytes_are = rw long (sym t.is);
  }
    where
      t : Taken size area p r
      t = from_each area p r m

      i : size (drop r.place area) ≤ length (drop r.place area)
      i = ok.inside (drop r.place area)

      long : length r.bytes ≡ size (drop r.place area)
      long = ap length t.is ∙ length-take-le (size (drop r.place area)) (drop r.place area) i
