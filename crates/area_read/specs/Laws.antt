-- Laws of the next record, which the loops use.
use Rattle.std.specs.Prelude.{ℕ, zero, suc, ◌+◌, ◌-◌, ◌≤◌, ◌<◌, ◌≡◌, refl, ◌≢◌, [], ◌∷◌, length, take, drop, Option, Some, None}
use Rattle.std.proofs.Common.{ap, ◌∙◌, inr, arith, add-one, add-zero, length-drop, drop_of_length-le, drop-cons, drop-drop, length-take-le}
use Rattle.format.specs.Bytes.{Bytes}
use Rattle.format.specs.Record.{record_size}
use Rattle.format.specs.Reading.{taken, parts, placed}
use Rattle.format_laws.specs.Bytes.{drop_byte}
use Rattle.format_laws.specs.Record.{record_inside, record_least, record_blank}
use Rattle.format_laws.specs.Taken.{records_from, record_at}
use Rattle.format_laws.specs.Reading.{passed, parts_none, parts_take, parts_pass, placed_passed, placed_none, placed_taken}
use Rattle.record_magics.specs.Magic.{Passed, Onward}
use Rattle.area_read.specs.Area.{search, next_record, WrittenTo}
use Rattle.area_read.specs.declared.Next.{Next}

-- ---- the loop of the next record

pub next_here : (area : Bytes) (at : ℕ) → at < length area → record_size (drop at area) ≢ 0
    → next_record area at ≡ Some (record { at = at; size = record_size (drop at area) })
unfolding next_record search
next_here area at h z = go (record_size (drop at area)) refl
  where
    go : (n : ℕ) → record_size (drop at area) ≡ n → search (drop at area) at ≡ Some (record { at = at; size = record_size (drop at area) })
    go zero e = absurd (z e)
    go (suc n) e = let c = drop-cons area at 0 h in rw (e, c) (rw (search, rw c at e))

pub next_passes : (area : Bytes) (at : ℕ) → at < length area → record_size (drop at area) ≡ 0 → next_record area at ≡ next_record area (at + 1)
unfolding next_record search
next_passes area at h z = let c = drop-cons area at 0 h in rw (add-one, c) (rw (search, rw c at z))

pub next_ends : (area : Bytes) (at : ℕ) → length area ≤ at → next_record area at ≡ None
unfolding next_record search
next_ends area at h = rw (drop_of_length-le area h)

-- no record starts at the n places from a place on: the next one is the same behind them
next_passed : (area : Bytes) (at n : ℕ) → at + n ≤ length area → Passed area at n → next_record area at ≡ next_record area (at + n)
next_passed area at zero h p = rw (add-zero at)
next_passed area at (suc n) h p =
    let x : at + n + 1 ≡ at + suc n = omega arith in
    next_passed area at n (omega arith) (record { none = λ j l. p.none j (omega arith) })
    ∙ next_passes area (at + n) (omega arith) (p.none n (omega arith))
    ∙ ap (next_record area) x

pub next_onward : (area : Bytes) (at to : ℕ) → at ≤ length area → Onward area at to → next_record area at ≡ next_record area to
next_onward area at to h o =
    let a = o.onward in
    let b = o.within h in
    let x : at + (to - at) ≡ to = omega arith in
    rw x at (next_passed area at (to - at) (omega arith) o.passed)

-- behind what is written none starts
pub next_unwritten : (area : Bytes) (from written at : ℕ) → WrittenTo area from written → written ≤ at → at ≤ length area
    → next_record area at ≡ None
next_unwritten area from written at w h g =
    next_onward area at (length area) g (record { onward = g; within = λ l. omega arith; passed = record { none = none } })
    ∙ next_ends area (length area) (omega arith)
  where
    none : (j : ℕ) → j < length area - at → record_size (drop (at + j) area) ≡ 0
    none j l = record_blank (drop (at + j) area) (inr (drop_byte (at + j) area 0 ∙ rw (add-zero (at + j)) (w.erased (at + j) (omega arith) (omega arith))))

-- ---- what the next record tells of the parts

-- among the bytes t, which start at the place p, the record f stands behind `gap` bytes that are passed over
pub record Found (t : Bytes) (p : ℕ) (f : Next) : Type 0 where
  pub gap : ℕ
  pub at_gap : f.at ≡ p + gap
  pub within : gap + f.size ≤ length t
  pub least : 20 ≤ f.size
  pub some : parts record_size t 0 ≡ passed (take gap t) (taken (take f.size (drop gap t)) ∷ parts record_size (drop (gap + f.size) t) 0)

-- the search found that, or all bytes are passed over
abbrev pub Searched : Bytes → ℕ → Option Next → Type 0
Searched t p None = parts record_size t 0 ≡ passed t []
Searched t p (Some f) = Found t p f

pub searched : (t : Bytes) (p : ℕ) → Searched t p (search t p)
unfolding search passed
searched [] p = parts_none record_size
searched (b ∷ t) p = go (record_size (b ∷ t)) refl (searched t (suc p))
  where
    later : record_size (b ∷ t) ≡ 0 → (o : Option Next) → Searched t (suc p) o → Searched (b ∷ t) p o
    later e o s = go o s
      where
        one : parts record_size (b ∷ t) 0 ≡ passed (b ∷ []) (parts record_size t 0)
        one = parts_pass record_size 1 (b ∷ t) (omega arith) (λ j h. let z : j ≡ 0 = omega arith in rw z e)

        go : (o : Option Next) → Searched t (suc p) o → Searched (b ∷ t) p o
        go None s = one ∙ rw (passed, s)
        go (Some f) s =
            let y : suc s.gap + f.size ≡ suc (s.gap + f.size) = omega arith in
            record {
              gap = suc s.gap;
              at_gap = omega (arith, s.at_gap);
              within = omega (arith, s.within);
              least = s.least;
              some = one ∙ rw (y, passed, s.some);
            }

    go : (n : ℕ) → record_size (b ∷ t) ≡ n → Searched t (suc p) (search t (suc p)) → Searched (b ∷ t) p (search (b ∷ t) p)
    go zero e s = rw (search, e) (later e (search t (suc p)) s)
    go (suc n) e s =
        let room = record_inside (b ∷ t) in
        let y : 0 + suc n ≡ suc n = omega arith in
        rw (search, e) (record {
          gap = 0;
          at_gap = omega arith;
          within = omega arith;
          least = rw e at (record_least (b ∷ t) (λ q. omega arith));
          some = rw y (parts_take record_size (b ∷ t) (suc n) e (omega arith) (omega arith));
        })

pub found : (t : Bytes) (p : ℕ) (f : Next) → Some f ≡ search t p → Found t p f
found t p f e = rw (← e) at (searched t p)

pub not_found : (t : Bytes) (p : ℕ) → None ≡ search t p → parts record_size t 0 ≡ passed t []
not_found t p e = rw (← e) at (searched t p)

-- ---- the records from a place on, by the next one

pub record Nexts (area : Bytes) (at : ℕ) (f : Next) : Type 0 where
  pub some : records_from record_size area at ≡ record_at area f.at f.size ∷ records_from record_size area (f.at + f.size)
  pub after : at ≤ f.at
  pub room : f.at + f.size ≤ length area
  pub least : 20 ≤ f.size

pub next_none : (area : Bytes) (at : ℕ) → None ≡ next_record area at → records_from record_size area at ≡ []
unfolding next_record
next_none area at e = ap (placed at) (not_found (drop at area) at e) ∙ placed_passed at (drop at area) [] ∙ placed_none (at + length (drop at area))

next_found : (area : Bytes) (at : ℕ) (f : Next) → at ≤ length area → Found (drop at area) at f → Nexts area at f
next_found area at f h s = record {
  some = ap (placed at) s.some ∙ placed_passed at (take s.gap t) _ ∙ placed_taken _ (take f.size (drop s.gap t)) _ ∙ moved;
  after = omega (arith, s.at_gap);
  room = omega (arith, s.at_gap, s.within, long);
  least = s.least;
}
  where
    t : Bytes
    t = drop at area

    long : length (drop at area) ≡ length area - at
    long = length-drop at area

    moved : record { place = at + length (take s.gap t); bytes = take f.size (drop s.gap t) }
        ∷ placed (at + length (take s.gap t) + length (take f.size (drop s.gap t))) (parts record_size (drop (s.gap + f.size) t) 0)
        ≡ record_at area f.at f.size ∷ records_from record_size area (f.at + f.size)
    moved =
        let g : length (take s.gap t) ≡ s.gap = length-take-le s.gap t (omega (arith, s.within)) in
        let n : length (take f.size (drop s.gap t)) ≡ f.size =
        length-take-le f.size (drop s.gap t) (omega (arith, s.within, length-drop s.gap t)) in
        let a : drop s.gap t ≡ drop f.at area = drop-drop s.gap at area ∙ rw s.at_gap in
        let b : drop (s.gap + f.size) t ≡ drop (f.at + f.size) area =
        drop-drop (s.gap + f.size) at area ∙ (let x : at + (s.gap + f.size) ≡ f.at + f.size = omega (arith, s.at_gap) in rw x) in
        rw (n, g, b, a, ← s.at_gap)

pub next_law : (area : Bytes) (at : ℕ) (f : Next) → at ≤ length area → Some f ≡ next_record area at → Nexts area at f
unfolding next_record
next_law area at f h e = next_found area at f h (found (drop at area) at f e)
