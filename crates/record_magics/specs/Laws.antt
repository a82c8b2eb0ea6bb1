-- What a byte tells of the four places up to its own, and the laws of the search.
use Rattle.std.specs.Prelude.{ℕ, zero, suc, ◌+◌, ◌-◌, ◌≤◌, ◌<◌, ◌≡◌, refl, ◌≢◌, Bool, true, false, cond, ◌&&◌, ◌||◌, List, [], length, drop, eqb, ltb}
use Rattle.std.proofs.Common.{sym, ap, ◌∙◌, ⊎_elim, arith, add-zero, length-drop}
use Rattle.std.proofs.lemmas.Bool.{false≢true}
use borrow.Author.Tests.{eqb-true, eqb-false, ltb-true, ltb-false, not-true}
use Rattle.format.specs.Bytes.{Bytes, byte_at, le32, enc32}
use Rattle.format.specs.Record.{inode, block, record_size}
use Rattle.format.specs.Reading.{ERASED}
use Rattle.format_laws.specs.Bytes.{drop_byte, drop_le32}
use Rattle.format_laws.specs.Crc.{Octets}
use Rattle.format_laws.specs.Octets.{octets_drop}
use Rattle.format_laws.specs.Magic.{StartsWith, record_magic}
use Rattle.format_laws.specs.Record.{and_left, and_right, no_magic, too_short}
use Rattle.record_magics.specs.Magic.{start_of, in_magic, magic_at, clear, clear_all, erased_fourths, Passed, Onward, bit_of, Marks}

-- whether a test holds for every number below n
unfoldable pub all_below : (ℕ → Bool) → ℕ → Bool
all_below f zero = true
all_below f (suc n) = f n && all_below f n

all_below_lem : (f : ℕ → Bool) (n : ℕ) → all_below f n ≡ true → (i : ℕ) → i < n → f i ≡ true
unfolding all_below
all_below_lem f zero e i h = absurd (omega arith)
all_below_lem f (suc n) e i h = go (eqb i n) refl (all_below_lem f n (and_right (f n) (all_below f n) e) i)
  where
    go : (t : Bool) → eqb i n ≡ t → (i < n → f i ≡ true) → f i ≡ true
    go true q ih = ap f (eqb-true i n q) ∙ and_left (f n) (all_below f n) e
    go false q ih = let d = eqb-false i n q in ih (omega (arith, d))

-- each byte of a magic tells how far before it the magic starts
told_by : ℕ → ℕ → Bool
told_by m i = eqb (start_of (byte_at (enc32 m []) i) + i) 3

told : (t : Bytes) (m : ℕ) → StartsWith t m → all_below (told_by m) 4 ≡ true → (i : ℕ) → i < 4 → start_of (byte_at t i) + i ≡ 3
unfolding told_by
told t m s e i h = rw (s.byte i h) (eqb-true _ _ (all_below_lem (told_by m) 4 e i h))

start_told : (t : Bytes) → Octets t → record_size t ≢ 0 → (i : ℕ) → i < 4 → start_of (byte_at t i) + i ≡ 3
unfolding all_below told_by start_of
start_told t o z = ⊎_elim (λ s. told t inode.magic s refl) (λ s. told t block.magic s refl) (record_magic t o z)

-- ---- the loop of the search

passed_more : (area : Bytes) (at m n : ℕ) → Passed area at m → Passed area (at + m) n → Passed area at (m + n)
passed_more area at m n p q = record { none = λ j h. go j h (ltb j m) refl }
  where
    go : (j : ℕ) → j < m + n → (t : Bool) → ltb j m ≡ t → record_size (drop (at + j) area) ≡ 0
    go j h true e = p.none j (ltb-true j m e)
    go j h false e =
        let l = ltb-false j m e in
        let x : at + m + (j - m) ≡ at + j = omega arith in
        rw x at (q.none (j - m) (omega arith))

module _ (area : Bytes) (from to : ℕ) (o : Onward area from to) where
  -- n places more
  pub onward_more : (n : ℕ) → to + n ≤ length area → Passed area to n → Onward area from (to + n)
  onward_more n h p =
      let a = o.onward in
      let x : from + (to - from) ≡ to = omega arith in
      let y : to - from + n ≡ to + n - from = omega arith in
      record {
        onward = omega arith;
        within = λ k. h;
        passed = rw y at (passed_more area from (to - from) n o.passed (rw x p));
      }

  -- to the end, where there is no room for a header
  pub onward_ends : to ≤ length area → length area < to + 20 → Onward area from (length area)
  onward_ends h l =
      let x : to + (length area - to) ≡ length area = omega arith in
      rw x at (onward_more (length area - to) (omega arith) (record {
        none = λ j k. too_short (drop (to + j) area) (omega (arith, length-drop (to + j) area));
      }))

-- ---- a magic at a place

or_neither : (a b : Bool) → (a || b) ≡ false → (a ≡ false) × (b ≡ false)
or_neither true b e = absurd (false≢true (sym e))
or_neither false b e = (refl, e)

magic_none : (area : Bytes) (p : ℕ) → magic_at area p ≡ false → record_size (drop p area) ≡ 0
unfolding magic_at
magic_none area p e =
    let d = or_neither (eqb (le32 area p) inode.magic) (eqb (le32 area p) block.magic) e in
    let w : le32 (drop p area) 0 ≡ le32 area p = drop_le32 p area 0 ∙ ap (le32 area) (add-zero p) in
    no_magic (drop p area) (λ q. eqb-false _ _ d.0 (sym w ∙ q)) (λ q. eqb-false _ _ d.1 (sym w ∙ q))

-- ---- four places by the byte at the last of them

module _ (area : Bytes) (o : Octets area) (at : ℕ) where
  abbrev last : ℕ
  last = byte_at area (at + 3)

  one_place : (j : ℕ) → j < 4 → record_size (drop (at + j) area) ≢ 0 → start_of last ≡ j
  one_place j h z =
      let x : at + j + (3 - j) ≡ at + 3 = omega arith in
      let b : byte_at (drop (at + j) area) (3 - j) ≡ last = drop_byte (at + j) area (3 - j) ∙ ap (byte_at area) x in
      let s = start_told (drop (at + j) area) (octets_drop (at + j) area o) z (3 - j) (omega arith) in
      let q : start_of last + (3 - j) ≡ 3 = rw b at s in
      omega (arith, q)

  -- at the others none starts
  other_place : (j : ℕ) → j < 4 → start_of last ≢ j → record_size (drop (at + j) area) ≡ 0
  other_place j h d = go (record_size (drop (at + j) area)) refl
    where
      go : (n : ℕ) → record_size (drop (at + j) area) ≡ n → record_size (drop (at + j) area) ≡ 0
      go zero e = e
      go (suc n) e = absurd (d (one_place j h (λ z. omega (arith, e, z))))

  pub four_passed : in_magic last ≡ false → Passed area at 4
  unfolding in_magic
  four_passed e = let l = ltb-false (start_of last) 4 e in record { none = λ j h. other_place j h (λ q. omega (arith, l, q)) }

  pub before_start : (i : ℕ) → i ≡ start_of last → i < 4 → Passed area at i
  before_start i e l = record { none = λ j h. other_place j (omega arith) (λ q. omega (arith, e, q)) }

  -- the one place that is left has no magic either
  pub none_in_four : (i : ℕ) → i ≡ start_of last → magic_at area (at + i) ≡ false → Passed area at 4
  none_in_four i e m = record { none = λ j h. go j h (eqb j i) refl }
    where
      go : (j : ℕ) → j < 4 → (t : Bool) → eqb j i ≡ t → record_size (drop (at + j) area) ≡ 0
      go j h true q = rw (eqb-true j i q) (magic_none area (at + i) m)
      go j h false q = other_place j h (λ z. eqb-false j i q (sym z ∙ sym e))

-- ---- sixteen places by four bytes

clears : (a b c d : Bool) → (a && b && c && d) ≡ true → (a ≡ true) × (b ≡ true) × (c ≡ true) × (d ≡ true)
clears true true true true e = (refl, refl, refl, refl)
clears true true true false e = absurd (false≢true e)
clears true true false d e = absurd (false≢true e)
clears true false c d e = absurd (false≢true e)
clears false b c d e = absurd (false≢true e)

pub erased_clear : (area : Bytes) (at : ℕ) → erased_fourths area at ≡ true → clear_all area at ≡ true
unfolding erased_fourths clear_all in_magic start_of
erased_clear area at e =
    let l = clears (eqb (byte_at area (at + 3)) ERASED) (eqb (byte_at area (at + 7)) ERASED) (eqb (byte_at area (at + 11)) ERASED) (eqb (byte_at area (at + 15)) ERASED) e in
    rw (
      eqb-true (byte_at area (at + 3)) ERASED l.0,
      eqb-true (byte_at area (at + 7)) ERASED l.1,
      eqb-true (byte_at area (at + 11)) ERASED l.2,
      eqb-true (byte_at area (at + 15)) ERASED l.3,
    )
    refl

pub sixteen_passed : (area : Bytes) → Octets area → (at : ℕ) → clear_all area at ≡ true → Passed area at 16
unfolding clear_all
sixteen_passed area o at e =
    let l = clears (clear area (at + 3)) (clear area (at + 7)) (clear area (at + 11)) (clear area (at + 15)) e in
    let y : at + 11 ≡ at + 8 + 3 = omega arith in
    let z : at + 15 ≡ at + 8 + 7 = omega arith in
    passed_more area at 8 8 (eight at l.0 l.1) (eight (at + 8) (rw y at l.2) (rw z at l.3))
  where
    eight : (p : ℕ) → clear area (p + 3) ≡ true → clear area (p + 7) ≡ true → Passed area p 8
    eight p a b =
        let x : p + 4 + 3 ≡ p + 7 = omega arith in
        passed_more area p 4 4 (four_passed area o p (not-true _ a)) (four_passed area o (p + 4) (rw x (not-true _ b)))

-- ---- marks

-- words that pass the test of all bytes are such
unfoldable pub bit_right : List ℕ → ℕ → Bool
bit_right marks b = eqb (bit_of marks b) (cond (in_magic b) 1 0)

pub marks_of : (marks : List ℕ) → length marks ≡ 4 → all_below (bit_right marks) 256 ≡ true → Marks marks
unfolding bit_right
marks_of marks n e = record { size = n; bit = λ b h. eqb-true _ _ (all_below_lem (bit_right marks) 256 e b h) }

pub bit_told : (marks : List ℕ) → Marks marks → (b : ℕ) → b < 256 → eqb (bit_of marks b) 1 ≡ in_magic b
bit_told marks m b h = rw (m.bit b h) (go (in_magic b))
  where
    go : (t : Bool) → eqb (cond t 1 0) 1 ≡ t
    go true = refl
    go false = refl
