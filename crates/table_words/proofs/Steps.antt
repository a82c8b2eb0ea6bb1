-- One turn of each loop, and the store of one word, as laws of lists.
use mathlib.Core.List.{List, [], ◌∷◌, ◌++◌}
use mathlib.Core.Path.{◌≡◌, refl, ap}
use mathlib.Core.Logic.{◌≢◌}
use mathlib.Core.Bool.{Bool, true, false, ◌||◌}
use lib.Dec.{eqb}
use borrow.Author.Tests.{eqb-false}
use Prim.Native.Nat.{ℕ, zero, suc, ◌+◌, ◌*◌, ◌≤◌, ◌<◌}
use native.Mathlib.Nat.{suc-add}
use native.Mathlib.Numerals.{add-one}
use native.Mathlib.Omega.{arith}
use lib.ListN.{length, set, get_or, drop, drop_of_length-le}
use Rattle.std.specs.Prelude.{sum_by}
use Rattle.std.proofs.lemmas.List.Recursion.{is_sum_by}
use lib.Seq.{drop-cons, set-append_left}
use Rattle.table_words.specs.Position.{position_of, Before, in_four}
use Rattle.table_words.specs.Occupancy.{digits, bits, first_zero, total}
use Rattle.table_words.specs.Laws.{position_hit, position_miss, position_left, position_right, total_append, length_digits}

-- ---- four numbers, none of which is x

or_false : (a b : Bool) → (a || b) ≡ false → (a ≡ false) × (b ≡ false)
or_false true b e = let z : ◌≡◌ {A = ℕ} 0 1 = cc in absurd (omega arith)
or_false false b e = (refl, e)

record NoneOfFour (l : List ℕ) (i x : ℕ) : Type 0 where
  first : get_or l i 0 ≢ x
  second : get_or l (i + 1) 0 ≢ x
  third : get_or l (i + 2) 0 ≢ x
  fourth : get_or l (i + 3) 0 ≢ x

none_of_four : (l : List ℕ) (i x : ℕ) → in_four l i x ≡ false → NoneOfFour l i x
unfolding in_four
none_of_four l i x e =
    let c = or_false ((eqb (get_or l i 0) x || eqb (get_or l (i + 1) 0) x) || eqb (get_or l (i + 2) 0) x) (eqb (get_or l (i + 3) 0) x) e in
    let b = or_false (eqb (get_or l i 0) x || eqb (get_or l (i + 1) 0) x) (eqb (get_or l (i + 2) 0) x) c.0 in
    let a = or_false (eqb (get_or l i 0) x) (eqb (get_or l (i + 1) 0) x) b.0 in
    record { first = eqb-false _ _ a.0; second = eqb-false _ _ a.1; third = eqb-false _ _ b.1; fourth = eqb-false _ _ c.1 }

-- ---- the search of a list's numbers, at i

module _ (x i : ℕ) (l : List ℕ) where
  next_id : i < length l → drop i l ≡ get_or l i 0 ∷ drop (i + 1) l
  next_id h = rw (add-one, drop-cons l i 0)

  pub search_hit : i < length l → get_or l i 0 ≡ x → position_of x (drop i l) ≡ 0
  search_hit h e = rw (next_id h) (position_hit x (get_or l i 0) (drop (i + 1) l) e)

  pub search_miss : i < length l → (get_or l i 0 ≡ x → ⊥) → position_of x (drop i l) ≡ suc (position_of x (drop (i + 1) l))
  search_miss h e = rw (next_id h) (position_miss x (get_or l i 0) (drop (i + 1) l) e)

  pub search_end : length l ≤ i → position_of x (drop i l) ≡ 0
  unfolding position_of
  search_end h = rw (drop_of_length-le l {i = i} h)

-- x is not among the first none; one number more is not x, four more, and eight more
pub before_none : (x : ℕ) (l : List ℕ) → Before x l 0
before_none x l = record { within = omega arith; rest = omega arith }

module _ (x : ℕ) (l : List ℕ) where
  before_one : (i : ℕ) → i < length l → get_or l i 0 ≢ x → Before x l i → Before x l (i + 1)
  before_one i h d b = record { within = omega arith; rest = omega (arith, b.rest, search_miss x i l h d) }

  before_four : (i : ℕ) → i + 4 ≤ length l → in_four l i x ≡ false → Before x l i → Before x l (i + 4)
  before_four i h e b =
      let d = none_of_four l i x e in
      let p : i + 1 + 1 ≡ i + 2 = omega arith in
      let q : i + 2 + 1 ≡ i + 3 = omega arith in
      let r : i + 3 + 1 ≡ i + 4 = omega arith in
      rw r at (before_one (i + 3) (omega arith) d.fourth
      (rw q at (before_one (i + 2) (omega arith) d.third
      (rw p at (before_one (i + 1) (omega arith) d.second (before_one i (omega arith) d.first b))))))

  pub before_eight : (i : ℕ) → i + 8 ≤ length l → (in_four l i x || in_four l (i + 4) x) ≡ false → Before x l i → Before x l (i + 8)
  before_eight i h e b =
      let d = or_false (in_four l i x) (in_four l (i + 4) x) e in
      let p : i + 4 + 4 ≡ i + 8 = omega arith in
      rw p at (before_four (i + 4) (omega arith) d.1 (before_four i (omega arith) d.0 b))

-- ---- the words from i on

module _ (i : ℕ) (ws : List ℕ) (within : i < length ws) where
  next_word : bits (drop i ws) ≡ digits 64 (get_or ws i 0) ++ bits (drop (i + 1) ws)
  unfolding bits
  next_word = rw (add-one, drop-cons ws i 0)

  pub word_free : first_zero (digits 64 (get_or ws i 0)) < 64 → first_zero (bits (drop i ws)) ≡ first_zero (digits 64 (get_or ws i 0))
  word_free h = rw next_word (position_left 0 _ _ (rw length_digits h))

  pub word_full : 64 ≤ first_zero (digits 64 (get_or ws i 0)) → first_zero (bits (drop i ws)) ≡ 64 + first_zero (bits (drop (i + 1) ws))
  word_full h =
      let e = position_right 0 (digits 64 (get_or ws i 0)) (bits (drop (i + 1) ws)) (rw length_digits h) in
      rw next_word (omega (arith, length_digits 64 (get_or ws i 0)))

-- past the last word there is no place
pub words_end : (i : ℕ) (ws : List ℕ) → length ws ≤ i → bits (drop i ws) ≡ []
unfolding bits
words_end i ws h = rw (drop_of_length-le ws {i = i} h)

-- the places taken of all words
pub total_words : (ws : List ℕ) → total (bits ws) ≡ sum_by (λ w. total (digits 64 w)) ws
unfolding bits total
total_words = is_sum_by (λ ws. total (bits ws)) (λ w. total (digits 64 w)) refl (λ w ws. total_append (digits 64 w) (bits ws))

-- ---- the word i stored with its place j taken

set_right : (a b : List ℕ) (j v : ℕ) → set (a ++ b) (length a + j) v ≡ a ++ set b j v
set_right [] b j v = ap (λ (n : ℕ). set b n v) (omega arith)
set_right (x ∷ a) b j v = rw (suc-add (length a) j) (ap (λ (l : List ℕ). x ∷ l) (set_right a b j v))

pub word_set : (i j w : ℕ) (ws : List ℕ) → i < length ws → j < 64 → digits 64 w ≡ set (digits 64 (get_or ws i 0)) j 1
    → bits (set ws i w) ≡ set (bits ws) (i * 64 + j) 1
unfolding bits
word_set i j w [] h l e = absurd (omega arith)
word_set zero j w (v ∷ ws) h l e =
    rw (e, ← set-append_left (digits 64 v) (bits ws) j 1 (rw length_digits l))
    (ap (λ (n : ℕ). set (digits 64 v ++ bits ws) n 1) (omega arith))
word_set (suc i) j w (v ∷ ws) h l e =
    rw (word_set i j w ws (omega arith) l e, ← set_right (digits 64 v) (bits ws) (i * 64 + j) 1, length_digits)
    (ap (λ (n : ℕ). set (digits 64 v ++ bits ws) n 1) (omega arith))
