-- Where the erased end of some bytes begins, sought from behind.
use Rattle.std.specs.Prelude.{ℕ, zero, suc, ◌+◌, ◌-◌, ◌≤◌, ◌<◌, ◌≡◌, refl, ◌⊎◌, Bool, true, false, cond, ◌&&◌, [], ◌∷◌, ◌++◌, length, max, take, drop, eqb, ltb}
use Rattle.std.proofs.Common.{sym, subst, ◌∙◌, inl, inr, arith, add-one, length-append, length-drop, drop-drop, take-suc, eq-eqb, ne_eqb, eqb-true, ltb-true, ltb-false}
use Rattle.std.proofs.Math.Dec.{eqb-suc-suc, eqb-zero-suc}
use Rattle.format.specs.Bytes.{Bytes, byte_at, le32}
use Rattle.format.specs.Reading.{ERASED, erased_end}
use Rattle.format_laws.specs.Bytes.{drop_byte}
use Rattle.format_laws.specs.Crc.{Octets}
use Rattle.format_laws.specs.Octets.{octet_at}
use Rattle.format_laws.specs.Record.{and_left, and_right}
use Rattle.format_laws.specs.Reading.{erased_end_le}
use Rattle.area_read.specs.Area.{WrittenTo}

-- ---- the erased end, byte by byte

erased_snoc : (l : Bytes) (b : ℕ) → erased_end (l ++ (b ∷ [])) ≡ cond (eqb b ERASED) (erased_end l + 1) 0
unfolding erased_end
erased_snoc [] b = refl
erased_snoc (a ∷ l) b = go (eqb b ERASED) refl (erased_snoc l b)
  where
    long : length (l ++ (b ∷ [])) ≡ suc (length l)
    long = omega (arith, length-append l (b ∷ []))

    pick : (t : Bool) → cond t (suc (suc (erased_end l))) (suc (erased_end l)) ≡ cond t (suc (erased_end l)) (erased_end l) + 1
    pick true = omega arith
    pick false = omega arith

    go : (t : Bool) → eqb b ERASED ≡ t → erased_end (l ++ (b ∷ [])) ≡ cond (eqb b ERASED) (erased_end l + 1) 0
        → cond (eqb (erased_end (l ++ (b ∷ []))) (length (l ++ (b ∷ []))) && eqb a ERASED) (suc (erased_end (l ++ (b ∷ [])))) (erased_end (l ++ (b ∷ [])))
        ≡ cond (eqb b ERASED) (cond (eqb (erased_end l) (length l) && eqb a ERASED) (suc (erased_end l)) (erased_end l) + 1) 0
    go true e ih =
        let q : erased_end (l ++ (b ∷ [])) ≡ suc (erased_end l) = ih ∙ rw e (omega arith) in
        rw (q, long, eqb-suc-suc (erased_end l) (length l), e) (pick (eqb (erased_end l) (length l) && eqb a ERASED))
    go false e ih =
        let q : erased_end (l ++ (b ∷ [])) ≡ 0 = ih ∙ rw e in
        rw (q, long, eqb-zero-suc (length l), e)

-- from i on all bytes of s are erased: they and those at the end of what stands before i are all of the end
pub record ErasedFrom (s : Bytes) (i : ℕ) : Type 0 where
  pub within : i ≤ length s
  pub counted : erased_end s ≡ length s - i + erased_end (take i s)

pub erased_whole : (s : Bytes) → ErasedFrom s 0 → length s ≡ erased_end s
unfolding erased_end
erased_whole s g = omega (arith, g.counted)

module _ (s : Bytes) (i : ℕ) (g : ErasedFrom s (i + 1)) where
  last_byte : erased_end (take (i + 1) s) ≡ cond (eqb (byte_at s i) ERASED) (erased_end (take i s) + 1) 0
  last_byte = let h = g.within in rw (add-one i, take-suc s i 0 (omega arith)) (erased_snoc (take i s) (byte_at s i))

  pub erased_byte : byte_at s i ≡ ERASED → ErasedFrom s i
  erased_byte e =
      let h = g.within in
      let q : erased_end (take (i + 1) s) ≡ erased_end (take i s) + 1 = last_byte ∙ rw (eq-eqb (byte_at s i) ERASED e) in
      record { within = omega arith; counted = omega (arith, g.counted, q) }

  pub erased_stops : (byte_at s i ≡ ERASED → ⊥) → length s - (i + 1) ≡ erased_end s
  erased_stops d =
      let q : erased_end (take (i + 1) s) ≡ 0 = last_byte ∙ rw (ne_eqb (byte_at s i) ERASED d) in
      omega (arith, g.counted, q)

-- four bytes at once, eight, 32 and 64

abbrev pub ERASED_WORD : ℕ
ERASED_WORD = 0xffffffff

erased_word : (s : Bytes) → Octets s → (i : ℕ) → le32 s i ≡ ERASED_WORD → ErasedFrom s (i + 4) → ErasedFrom s i
unfolding le32
erased_word s o i e g =
    let a = octet_at s o i in
    let b = octet_at s o (i + 1) in
    let c = octet_at s o (i + 2) in
    let d = octet_at s o (i + 3) in
    let x : i + 4 ≡ i + 3 + 1 = omega arith in
    let y : i + 3 ≡ i + 2 + 1 = omega arith in
    let z : i + 2 ≡ i + 1 + 1 = omega arith in
    let third = erased_byte s (i + 3) (rw x at g) (omega (arith, a, b, c, d, e)) in
    let second = erased_byte s (i + 2) (rw y at third) (omega (arith, a, b, c, d, e)) in
    let first = erased_byte s (i + 1) (rw z at second) (omega (arith, a, b, c, d, e)) in
    erased_byte s i first (omega (arith, a, b, c, d, e))

abbrev pub erased_eight : Bytes → ℕ → Bool
erased_eight s i = eqb (le32 s i) ERASED_WORD && eqb (le32 s (i + 4)) ERASED_WORD

unfoldable pub erased_thirty_two : Bytes → ℕ → Bool
erased_thirty_two s i = ((erased_eight s i && erased_eight s (i + 8)) && erased_eight s (i + 16)) && erased_eight s (i + 24)

erased_eight_lem : (s : Bytes) → Octets s → (i : ℕ) → erased_eight s i ≡ true → ErasedFrom s (i + 8) → ErasedFrom s i
erased_eight_lem s o i e g =
    let x : i + 8 ≡ i + 4 + 4 = omega arith in
    let a = and_left (eqb (le32 s i) ERASED_WORD) (eqb (le32 s (i + 4)) ERASED_WORD) e in
    let b = and_right (eqb (le32 s i) ERASED_WORD) (eqb (le32 s (i + 4)) ERASED_WORD) e in
    erased_word s o i (eqb-true _ _ a) (erased_word s o (i + 4) (eqb-true _ _ b) (rw x at g))

erased_thirty_two_lem : (s : Bytes) → Octets s → (i : ℕ) → erased_thirty_two s i ≡ true → ErasedFrom s (i + 32) → ErasedFrom s i
unfolding erased_thirty_two
erased_thirty_two_lem s o i e g =
    let x : i + 32 ≡ i + 24 + 8 = omega arith in
    let y : i + 24 ≡ i + 16 + 8 = omega arith in
    let z : i + 16 ≡ i + 8 + 8 = omega arith in
    let three = and_left ((erased_eight s i && erased_eight s (i + 8)) && erased_eight s (i + 16)) (erased_eight s (i + 24)) e in
    let two = and_left (erased_eight s i && erased_eight s (i + 8)) (erased_eight s (i + 16)) three in
    let fourth = erased_eight_lem s o (i + 24) (and_right ((erased_eight s i && erased_eight s (i + 8)) && erased_eight s (i + 16)) (erased_eight s (i + 24)) e) (rw x at g) in
    let third = erased_eight_lem s o (i + 16) (and_right (erased_eight s i && erased_eight s (i + 8)) (erased_eight s (i + 16)) three) (rw y at fourth) in
    let second = erased_eight_lem s o (i + 8) (and_right (erased_eight s i) (erased_eight s (i + 8)) two) (rw z at third) in
    erased_eight_lem s o i (and_left (erased_eight s i) (erased_eight s (i + 8)) two) second

pub erased_sixty_four : (s : Bytes) → Octets s → (i : ℕ) → 64 ≤ i → (erased_thirty_two s (i - 64) && erased_thirty_two s (i - 32)) ≡ true → ErasedFrom s i
    → ErasedFrom s (i - 64)
erased_sixty_four s o i h e g =
    let x : i ≡ i - 32 + 32 = omega arith in
    let y : i - 32 ≡ i - 64 + 32 = omega arith in
    let second = erased_thirty_two_lem s o (i - 32) (and_right (erased_thirty_two s (i - 64)) (erased_thirty_two s (i - 32)) e) (subst (ErasedFrom s) x g) in
    erased_thirty_two_lem s o (i - 64) (and_left (erased_thirty_two s (i - 64)) (erased_thirty_two s (i - 32)) e) (subst (ErasedFrom s) y second)

-- ---- the end of what is written

-- one byte more in front: the end grows only where all the others are erased
erased_cons : (b : ℕ) (l : Bytes) → (erased_end (b ∷ l) ≡ erased_end l) ⊎ ((erased_end l ≡ length l) × (b ≡ ERASED) × (erased_end (b ∷ l) ≡ suc (erased_end l)))
unfolding erased_end
erased_cons b l = go (eqb (erased_end l) (length l)) (eqb b ERASED) refl refl
  where
    go : (x y : Bool) → eqb (erased_end l) (length l) ≡ x → eqb b ERASED ≡ y
        → (cond (x && y) (suc (erased_end l)) (erased_end l) ≡ erased_end l)
        ⊎ ((erased_end l ≡ length l) × (b ≡ ERASED) × (cond (x && y) (suc (erased_end l)) (erased_end l) ≡ suc (erased_end l)))
    go true true p q = inr (eqb-true _ _ p, eqb-true b ERASED q, refl)
    go true false p q = inl refl
    go false y p q = inl refl

-- the end of the bytes behind a place: as much of the whole end as lies there
pub record Rest (k : ℕ) (s : Bytes) : Type 0 where
  pub whole : erased_end s ≤ length s - k → erased_end (drop k s) ≡ erased_end s
  pub all : length s - k ≤ erased_end s → erased_end (drop k s) ≡ length s - k

pub erased_rest : (k : ℕ) (s : Bytes) → k ≤ length s → Rest k s
erased_rest zero s h = record { whole = λ e. refl; all = λ e. omega (arith, erased_end_le s) }
erased_rest (suc k) [] h = absurd (omega arith)
erased_rest (suc k) (b ∷ l) h = go (erased_cons b l) (erased_rest k l (omega arith))
  where
    go : (erased_end (b ∷ l) ≡ erased_end l) ⊎ ((erased_end l ≡ length l) × (b ≡ ERASED) × (erased_end (b ∷ l) ≡ suc (erased_end l))) → Rest k l → Rest (suc k) (b ∷ l)
    go (inl e) r = record {
      whole = λ q. r.whole (omega (arith, e)) ∙ sym e;
      all = λ q. r.all (omega (arith, e)) ∙ omega arith;
    }
    go (inr (f, d, e)) r = record {
      whole = λ q. absurd (omega (arith, e, f));
      all = λ q. r.all (omega (arith, e, f)) ∙ omega arith;
    }

-- each byte of the end is erased
pub erased_bytes : (s : Bytes) (j : ℕ) → length s - erased_end s ≤ j → j < length s → byte_at s j ≡ ERASED
erased_bytes [] j h g = absurd (omega arith)
erased_bytes (b ∷ l) j h g = go j h g (erased_cons b l) (erased_bytes l)
  where
    go : (j : ℕ) → suc (length l) - erased_end (b ∷ l) ≤ j → j < suc (length l)
        → (erased_end (b ∷ l) ≡ erased_end l) ⊎ ((erased_end l ≡ length l) × (b ≡ ERASED) × (erased_end (b ∷ l) ≡ suc (erased_end l)))
        → ((j : ℕ) → length l - erased_end l ≤ j → j < length l → byte_at l j ≡ ERASED) → byte_at (b ∷ l) j ≡ ERASED
    go zero h g (inl e) ih = absurd (omega (arith, e, erased_end_le l))
    go zero h g (inr (f, d, e)) ih = d
    go (suc j) h g (inl e) ih = ih j (omega (arith, e)) (omega arith)
    go (suc j) h g (inr (f, d, e)) ih = ih j (omega (arith, e, f)) (omega arith)

-- The end of an area that was counted from a place on, seen from one behind it: where what is written ends, and how much of it is left to come.
pub record Ended (area : Bytes) (from written : ℕ) : Type 0 where
  pub written_to : WrittenTo area from written
  pub ends : erased_end (drop from area) ≡ length area - max from written

pub ended : (area : Bytes) (a from n : ℕ) → a ≤ from → from ≤ length area → n ≡ erased_end (drop a area) → Ended area from (length area - n)
ended area a from n h g e = record {
  written_to = record { within = g; inside = omega arith; erased = λ j l b. erased j l b };
  ends = rw (← moved) (go (ltb from (length area - n)) refl);
}
  where
    moved : drop (from - a) (drop a area) ≡ drop from area
    moved = let z : a + (from - a) ≡ from = omega arith in drop-drop (from - a) a area ∙ rw z

    long : length (drop a area) ≡ length area - a
    long = length-drop a area

    rest : Rest (from - a) (drop a area)
    rest = erased_rest (from - a) (drop a area) (omega (arith, long))

    few : n ≤ length area - a
    few = omega (arith, e, erased_end_le (drop a area), long)

    erased : (j : ℕ) → length area - n ≤ j → j < length area → byte_at area j ≡ ERASED
    erased j l b =
        let z : a + (j - a) ≡ j = omega (arith, few) in
        rw z at (sym (drop_byte a area (j - a)) ∙ erased_bytes (drop a area) (j - a) (omega (arith, e, long)) (omega (arith, long, few)))

    go : (t : Bool) → ltb from (length area - n) ≡ t → erased_end (drop (from - a) (drop a area)) ≡ length area - max from (length area - n)
    go true q = let l = ltb-true from (length area - n) q in rest.whole (omega (arith, e, long)) ∙ omega (arith, e, few)
    go false q = let l = ltb-false from (length area - n) q in rest.all (omega (arith, e, long)) ∙ omega (arith, long)
