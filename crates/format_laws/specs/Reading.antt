-- How an area's parts unfold, over any acceptor: a record is taken, or bytes are passed over.
use Prim.Native.Nat.{ℕ, zero, suc, ◌+◌, ◌-◌, ◌≤◌, ◌<◌}
use Rattle.std.specs.Prelude.{◌≡◌, ◌⊎◌, Bool, true, false, cond, ◌&&◌, length, take, drop, eqb}
use Rattle.std.proofs.Math.Path.{refl, ap}
use Rattle.std.proofs.Common.{◌∙◌, ⊎_elim, arith, take-append-drop, length-append, length-drop}
use mathlib.Core.List.Memᴰ
use mathlib.Core.List.{List, [], ◌∷◌, ◌++◌, Memᴰ}
use Rattle.std.proofs.Math.Seq.{drop-nil}
use Rattle.format.specs.Bytes.{Bytes, byte_at}
use Rattle.format.specs.Record.{record_size}
use Rattle.format.specs.AreaHeader.{area_header_size}
use Rattle.format.specs.Reading.{Acceptor, ERASED, Part, taken, stretch, skip, parts, Placed, placed, erased_end, free_size, Stretch, damaged_bytes, damaged, total_size}
use Rattle.format.specs.Reading.{area_parts, area_records, area_free}
use Rattle.format_laws.specs.Record.{record_inside, record_local, record_blank}

-- what the laws ask of an acceptor
pub record Lawful (size : Acceptor) : Type 0 where
  -- a record lies inside its area
  pub inside : (t : Bytes) → size t ≤ length t
  -- acceptance depends on the record's own bytes and room alone
  pub local : (t s : Bytes) → 0 < size t → take (size t) s ≡ take (size t) t → size s ≡ size t
  -- nothing acceptable starts at a blank byte
  pub blank : (t : Bytes) → (byte_at t 0 ≡ 0) ⊎ (byte_at t 0 ≡ ERASED) → size t ≡ 0

pub records_lawful : Lawful record_size
records_lawful = record { inside = record_inside; local = record_local; blank = record_blank }

-- bytes that are passed over in front of some parts
unfoldable pub passed : Bytes → List Part → List Part
passed [] l = l
passed (b ∷ s) l = skip b (passed s l)

-- a part's bytes, and those of several joined
abbrev pub part_bytes : Part → Bytes
part_bytes (taken r) = r
part_bytes (stretch s) = s

unfoldable pub joined : List Part → Bytes
joined [] = []
joined (q ∷ l) = part_bytes q ++ joined l

module _ (size : Acceptor) where
  -- the rest of a record that was taken is passed over
  pub parts_rest : (t : Bytes) (n : ℕ) → parts size t n ≡ parts size (drop n t) 0
  unfolding parts
  parts_rest [] n = rw drop-nil
  parts_rest (b ∷ t) zero = refl
  parts_rest (b ∷ t) (suc n) = parts_rest t n

  parts_hit : (b : ℕ) (t : Bytes) (n : ℕ) → size (b ∷ t) ≡ suc n → parts size (b ∷ t) 0 ≡ taken (b ∷ take n t) ∷ parts size t n
  unfolding parts
  parts_hit b t n e = rw (e, parts)

  parts_miss : (b : ℕ) (t : Bytes) → size (b ∷ t) ≡ 0 → parts size (b ∷ t) 0 ≡ skip b (parts size t 0)
  unfolding parts
  parts_miss b t e = rw (e, parts)

  pub parts_none : parts size [] 0 ≡ []
  unfolding parts
  parts_none = refl

  -- a record at the front is taken
  pub parts_take : (t : Bytes) (n : ℕ) → size t ≡ n → 0 < n → n ≤ length t → parts size t 0 ≡ taken (take n t) ∷ parts size (drop n t) 0
  parts_take t zero e h l = absurd (omega arith)
  parts_take [] (suc n) e h l = absurd (omega arith)
  parts_take (b ∷ t) (suc n) e h l = parts_hit b t n e ∙ ap (λ (x : List Part). taken (b ∷ take n t) ∷ x) (parts_rest t n)

  -- bytes at which no record starts are passed over
  pub parts_pass : (n : ℕ) (t : Bytes) → n ≤ length t → ((j : ℕ) → j < n → size (drop j t) ≡ 0)
      → parts size t 0 ≡ passed (take n t) (parts size (drop n t) 0)
  unfolding passed
  parts_pass zero t l h = refl
  parts_pass (suc n) [] l h = absurd (omega arith)
  parts_pass (suc n) (b ∷ t) l h =
      parts_miss b t (h 0 (omega arith)) ∙ ap (skip b) (parts_pass n t (omega arith) (λ j g. h (suc j) (omega arith)))

  -- the parts joined are the bytes: reading loses nothing
  pub parts_joined : ((t : Bytes) → size t ≤ length t) → (t : Bytes) (n : ℕ) → n ≤ length t → joined (parts size t n) ≡ drop n t
  unfolding parts joined skip
  parts_joined i [] n l = rw (drop-nil)
  parts_joined i (b ∷ t) (suc n) l = parts_joined i t n (omega arith)
  parts_joined i (b ∷ t) zero l = go (size (b ∷ t)) refl (λ n. parts_joined i t n)
    where
      front : (q : List Part) → joined (skip b q) ≡ b ∷ joined q
      front [] = refl
      front (taken r ∷ q) = refl
      front (stretch s ∷ q) = refl

      go : (n : ℕ) → size (b ∷ t) ≡ n → ((n : ℕ) → n ≤ length t → joined (parts size t n) ≡ drop n t) → joined (parts size (b ∷ t) 0) ≡ b ∷ t
      go zero e ih = ap joined (parts_miss b t e) ∙ front (parts size t 0) ∙ ap (λ (x : Bytes). b ∷ x) (ih 0 (omega arith))
      go (suc n) e ih =
          ap joined (parts_hit b t n e)
          ∙ ap (λ (x : Bytes). b ∷ (take n t ++ x)) (ih n (omega (arith, i (b ∷ t))))
          ∙ ap (λ (x : Bytes). b ∷ x) (take-append-drop n t)

-- ---- what passed bytes, and then a record or nothing, make of records, damage and free space

passed_stretch : (b : ℕ) (s : Bytes) (r : Bytes) (l : List Part) → passed (b ∷ s) (taken r ∷ l) ≡ stretch (b ∷ s) ∷ taken r ∷ l
unfolding passed skip
passed_stretch b [] r l = refl
passed_stretch b (c ∷ s) r l = ap (skip b) (passed_stretch c s r l)

passed_last : (b : ℕ) (s : Bytes) → passed (b ∷ s) [] ≡ stretch (b ∷ s) ∷ []
unfolding passed skip
passed_last b [] = refl
passed_last b (c ∷ s) = ap (skip b) (passed_last c s)

placed_skip : (p b : ℕ) (l : List Part) → placed p (skip b l) ≡ placed (p + 1) l
unfolding placed skip
placed_skip p b [] = refl
placed_skip p b (taken r ∷ l) = refl
placed_skip p b (stretch s ∷ l) = ap (λ (n : ℕ). placed n l) (omega arith)

pub placed_passed : (p : ℕ) (s : Bytes) (l : List Part) → placed p (passed s l) ≡ placed (p + length s) l
unfolding passed
placed_passed p [] l = ap (λ (n : ℕ). placed n l) (omega arith)
placed_passed p (b ∷ s) l =
    placed_skip p b (passed s l) ∙ placed_passed (p + 1) s l ∙ ap (λ (n : ℕ). placed n l) (omega arith)

pub placed_taken : (p : ℕ) (r : Bytes) (l : List Part) → placed p (taken r ∷ l) ≡ record { place = p; bytes = r } ∷ placed (p + length r) l
unfolding placed
placed_taken p r l = refl

pub placed_none : (p : ℕ) → placed p [] ≡ []
unfolding placed
placed_none p = refl

pub damaged_taken : (p : ℕ) (s r : Bytes) (l : List Part)
    → damaged p (passed s (taken r ∷ l)) ≡ damaged_bytes p (length s) ++ damaged (p + length s + length r) l
unfolding passed damaged damaged_bytes
damaged_taken p [] r l = ap (λ (n : ℕ). damaged n l) (omega arith)
damaged_taken p (b ∷ s) r l = rw (passed_stretch b s r l)

pub damaged_last : (p : ℕ) (s : Bytes) → damaged p (passed s []) ≡ damaged_bytes p (length s - erased_end s)
unfolding passed damaged damaged_bytes erased_end
damaged_last p [] = refl
damaged_last p (b ∷ s) = rw (passed_last b s)

free_record : (r : Bytes) (l : List Part) → free_size (taken r ∷ l) ≡ free_size l
unfolding free_size
free_record r [] = refl
free_record r (q ∷ l) = refl

free_stretch : (b : ℕ) (s r : Bytes) (l : List Part) → free_size (passed (b ∷ s) (taken r ∷ l)) ≡ free_size l
unfolding free_size
free_stretch b s r l = rw (passed_stretch b s r l) (free_record r l)

pub free_taken : (s r : Bytes) (l : List Part) → free_size (passed s (taken r ∷ l)) ≡ free_size l
unfolding passed
free_taken [] r l = free_record r l
free_taken (b ∷ s) r l = free_stretch b s r l

pub free_last : (s : Bytes) → free_size (passed s []) ≡ erased_end s
unfolding passed free_size erased_end
free_last [] = refl
free_last (b ∷ s) = rw (passed_last b s)

-- the erased end of some bytes is no longer than they are
pub erased_end_le : (s : Bytes) → erased_end s ≤ length s
unfolding erased_end
erased_end_le [] = omega arith
erased_end_le (b ∷ s) = go (eqb (erased_end s) (length s) && eqb b ERASED) (erased_end_le s)
  where
    go : (t : Bool) → erased_end s ≤ length s → cond t (suc (erased_end s)) (erased_end s) ≤ suc (length s)
    go true h = omega arith
    go false h = omega arith

-- ---- no record reaches into the free space

free_le : (l : List Part) → free_size l ≤ length (joined l)
unfolding free_size joined
free_le [] = omega arith
free_le (taken r ∷ []) = omega arith
free_le (stretch s ∷ []) = omega (arith, erased_end_le s, length-append s [])
free_le (taken r ∷ q ∷ l) = omega (arith, free_le (q ∷ l), length-append r (joined (q ∷ l)))
free_le (stretch s ∷ q ∷ l) = omega (arith, free_le (q ∷ l), length-append s (joined (q ∷ l)))

before_free : (p : ℕ) (l : List Part) (r : Placed) → Memᴰ r (placed p l) → r.place + length r.bytes + free_size l ≤ p + length (joined l)
unfolding placed free_size joined
before_free p [] r m = absurd (Memᴰ.not-nil m)
before_free p (stretch s ∷ []) r m = absurd (Memᴰ.not-nil m)
before_free p (taken t ∷ []) r m = ⊎_elim (λ e. rw e (omega (arith, length-append t []))) (λ n. absurd (Memᴰ.not-nil n)) (Memᴰ.cases_cons m)
before_free p (stretch s ∷ q ∷ l) r m = omega (arith, before_free (p + length s) (q ∷ l) r m, length-append s (joined (q ∷ l)))
before_free p (taken t ∷ q ∷ l) r m =
    ⊎_elim
    (λ e. rw e (omega (arith, free_le (q ∷ l), length-append t (joined (q ∷ l)))))
    (λ n. omega (arith, before_free (p + length t) (q ∷ l) r n, length-append t (joined (q ∷ l))))
    (Memᴰ.cases_cons m)

-- a record of an area ends where the free space starts, or before
pub ends_before_free : (size : Acceptor) → ((t : Bytes) → size t ≤ length t) → (area : Bytes) → area_header_size ≤ length area
    → (r : Placed) → Memᴰ r (area_records size area) → r.place + length r.bytes ≤ area_free size area
unfolding area_records area_free area_parts
ends_before_free size inside area h r m =
    let l = parts size (drop area_header_size area) 0 in
    let j : length (joined l) ≡ length area - area_header_size =
    ap length (parts_joined size inside (drop area_header_size area) 0 (omega arith)) ∙ length-drop area_header_size area in
    omega (arith, before_free area_header_size l r m)

pub total_append : (l m : List Stretch) → total_size (l ++ m) ≡ total_size l + total_size m
unfolding total_size
total_append [] m = omega arith
total_append (d ∷ l) m = rw (total_append l m) (omega arith)

pub total_damaged : (p n : ℕ) → total_size (damaged_bytes p n) ≡ n
unfolding damaged_bytes total_size
total_damaged p zero = refl
total_damaged p (suc n) = omega arith
