-- The laws of positions and of occupancy, for lists of any length and any number of words. Assumes nothing.
use Rattle.std.specs.Prelude.{Bool, true, false, cond, List, [], ◌∷◌, ◌++◌, ◌≡◌, refl, ℕ, zero, suc, ◌+◌, ◌-◌, ◌*◌, ◌/◌, ◌%◌, ◌^◌, ◌≤◌, ◌<◌, eqb, ltb, length, set, get_or, take, drop, replicate}
use Rattle.std.proofs.Common.{sym, ap, ap₂, ◌∙◌, pow-suc, suc-mul, arith, length-append, take_at, drop_at, get_or-take, length-take-le, eq-eqb, ne_eqb, eqb-true, ltb-true, ltb-false}
use Rattle.std.proofs.Math.Arith.{lt-one}
use Rattle.std.proofs.lemmas.List.{length-replicate, replicate-append-replicate}
use Rattle.std.proofs.lemmas.Bool.{eqb-false}
use Rattle.table_words.specs.Position.{position_of, First}
use Rattle.table_words.specs.Occupancy.{digits, bits, capacity, first_zero, total, filled, Low, Binary, none, more}

-- ---- positions: a free place is the digit 0, so these are the laws of the lowest free place too

pub position_hit : (x y : ℕ) (l : List ℕ) → y ≡ x → position_of x (y ∷ l) ≡ 0
unfolding position_of
position_hit x y l e = rw (eq-eqb y x e)

pub position_miss : (x y : ℕ) (l : List ℕ) → (y ≡ x → ⊥) → position_of x (y ∷ l) ≡ suc (position_of x l)
unfolding position_of
position_miss x y l e = rw (ne_eqb y x e)

first_hit_lem : (x y : ℕ) (l : List ℕ) → y ≡ x → First x (y ∷ l) 0
first_hit_lem x y l e = record { within = omega arith; here = λ h. e; before = λ j h q. omega arith }

first_miss : (x y : ℕ) (l : List ℕ) (p : ℕ) → (y ≡ x → ⊥) → First x l p → First x (y ∷ l) (suc p)
first_miss x y l p n f = record { within = omega (arith, f.within); here = λ h. f.here (omega arith); before = λ j. go j }
  where
    go : (j : ℕ) → j < suc p → get_or (y ∷ l) j 0 ≡ x → ⊥
    go zero h q = n q
    go (suc j) h q = f.before j (omega arith) q

pub position_first : (x : ℕ) (l : List ℕ) → First x l (position_of x l)
unfolding position_of
position_first x [] = record { within = omega arith; here = λ h. absurd (omega arith); before = λ j h q. omega arith }
position_first x (y ∷ l) = go (eqb y x) refl (position_first x l)
  where
    go : (b : Bool) → eqb y x ≡ b → First x l (position_of x l) → First x (y ∷ l) (cond b zero (suc (position_of x l)))
    go true e f = first_hit_lem x y l (eqb-true y x e)
    go false e f = first_miss x y l (position_of x l) (eqb-false y x e) f

-- no two places are the first
pub position_only : (x : ℕ) (l : List ℕ) (p : ℕ) → First x l p → position_of x l ≡ p
position_only x l p f = go (position_first x l) (ltb p (position_of x l)) refl (ltb (position_of x l) p) refl
  where
    go : First x l (position_of x l)
        → (a : Bool) → ltb p (position_of x l) ≡ a → (b : Bool) → ltb (position_of x l) p ≡ b → position_of x l ≡ p
    go g true e b d =
        let h = ltb-true p (position_of x l) e in
        absurd (g.before p h (f.here (omega (arith, g.within))))
    go g false e true d =
        let h = ltb-true (position_of x l) p d in
        absurd (f.before (position_of x l) h (g.here (omega (arith, f.within))))
    go g false e false d = omega (arith, ltb-false p (position_of x l) e, ltb-false (position_of x l) p d)

-- among the first n of a list, as `position` looks
module _ (x n : ℕ) (l : List ℕ) (within : n ≤ length l) where
  pub position_within : position_of x (take n l) ≤ n
  position_within = omega (arith, (position_first x (take n l)).within, length-take-le n l within)

  pub position_found : position_of x (take n l) < n → get_or l (position_of x (take n l)) 0 ≡ x
  position_found h = rw get_or-take at ((position_first x (take n l)).here (omega (arith, length-take-le n l within)))

  pub position_before : (j : ℕ) → j < position_of x (take n l) → get_or l j 0 ≡ x → ⊥
  position_before j h e =
      let below : j < n = omega (arith, position_within) in
      (position_first x (take n l)).before j h (rw get_or-take e)

-- two lists joined: the second is looked at only where the first does not have x
pub position_left : (x : ℕ) (a b : List ℕ) → position_of x a < length a → position_of x (a ++ b) ≡ position_of x a
unfolding position_of
position_left x [] b h = absurd (omega arith)
position_left x (y ∷ a) b h = go (eqb y x) h (position_left x a b)
  where
    go : (t : Bool) → cond t zero (suc (position_of x a)) < suc (length a)
        → (position_of x a < length a → position_of x (a ++ b) ≡ position_of x a)
        → cond t zero (suc (position_of x (a ++ b))) ≡ cond t zero (suc (position_of x a))
    go true h ih = refl
    go false h ih = ap suc (ih (omega arith))

pub position_right : (x : ℕ) (a b : List ℕ) → length a ≤ position_of x a → position_of x (a ++ b) ≡ length a + position_of x b
unfolding position_of
position_right x [] b h = omega arith
position_right x (y ∷ a) b h = go (eqb y x) h (position_right x a b)
  where
    go : (t : Bool) → suc (length a) ≤ cond t zero (suc (position_of x a))
        → (length a ≤ position_of x a → position_of x (a ++ b) ≡ length a + position_of x b)
        → cond t zero (suc (position_of x (a ++ b))) ≡ suc (length a) + position_of x b
    go true h ih = absurd (omega arith)
    go false h ih = omega (arith, ih (omega arith))

-- ---- places of any number

pub total_append : (a b : List ℕ) → total (a ++ b) ≡ total a + total b
unfolding total
total_append [] b = omega arith
total_append (d ∷ a) b = omega (arith, total_append a b)

-- a place taken: one more is taken if it was free
pub total_set : (l : List ℕ) (k : ℕ) → k < length l → total (set l k 1) + get_or l k 0 ≡ total l + 1
unfolding total
total_set [] k h = absurd (omega arith)
total_set (d ∷ l) zero h = omega arith
total_set (d ∷ l) (suc k) h = omega (arith, total_set l k (omega arith))

pub total_le : {l : List ℕ} → Binary l → total l ≤ length l
unfolding total
total_le none = omega arith
total_le (more h b) = omega (arith, total_le b)

-- as many taken as there are: none is free
pub full_first : {l : List ℕ} → Binary l → total l ≡ length l → first_zero l ≡ length l
unfolding position_of total
full_first none e = refl
full_first (more {d = d} {l = l} h b) e =
    position_miss 0 d l (λ z. omega (arith, total_le b)) ∙ ap suc (full_first b (omega (arith, total_le b)))

-- none free: as many are taken as there are
pub first_full : {l : List ℕ} → Binary l → first_zero l ≡ length l → total l ≡ length l
unfolding position_of total
first_full none e = refl
first_full (more {d = zero} h b) e = absurd (omega arith)
first_full (more {d = suc d} {l = l} h b) e =
    let s = position_miss 0 (suc d) l (λ z. omega arith) in
    omega (arith, first_full b (omega arith))

-- ---- the first n places taken and no other

first_filled : (n m : ℕ) → first_zero (filled n m) ≡ n
unfolding position_of
first_filled zero zero = refl
first_filled zero (suc m) = refl
first_filled (suc n) m = ap suc (first_filled n m)

total_filled : (n m : ℕ) → total (filled n m) ≡ n
unfolding total
total_filled zero zero = refl
total_filled zero (suc m) = omega (arith, total_filled zero m)
total_filled (suc n) m = omega (arith, total_filled n m)

length_filled : (n m : ℕ) → length (filled n m) ≡ n + m
length_filled n m = simp (length-append, length-replicate)

set_filled : (n m : ℕ) → set (filled n (suc m)) n 1 ≡ filled (suc n) m
set_filled zero m = refl
set_filled (suc n) m = ap (λ (l : List ℕ). 1 ∷ l) (set_filled n m)

-- a list that is filled so is Low
filled_low : (n m : ℕ) → Low (filled n m)
unfolding Low
filled_low n m =
    let e : (n + m) - n ≡ m = omega arith in
    rw (total_filled n m, length_filled n m, e)

-- in a Low list the lowest free place is the number taken
pub low_first : (l : List ℕ) → Low l → first_zero l ≡ total l
unfolding Low
low_first l low = ap first_zero low ∙ first_filled (total l) (length l - total l)

-- the lowest free place taken
low_set : (l : List ℕ) → Low l → total l < length l → set l (total l) 1 ≡ filled (suc (total l)) (length l - suc (total l))
unfolding Low
low_set l low h =
    let e : length l - total l ≡ suc (length l - suc (total l)) = omega arith in
    ap (λ (x : List ℕ). set x (total l) 1) low
    ∙ ap (λ (d : ℕ). set (filled (total l) d) (total l) 1) e
    ∙ set_filled (total l) (length l - suc (total l))

-- ---- words

pub length_digits : (k w : ℕ) → length (digits k w) ≡ k
unfolding digits
length_digits zero w = refl
length_digits (suc k) w = ap suc (length_digits k (w / 2))

pub length_bits : (ws : List ℕ) → length (bits ws) ≡ capacity ws
unfolding bits
length_bits [] = omega arith
length_bits (w ∷ ws) = rw (length-append, length_digits, length_bits ws, suc-mul) (omega arith)

binary_append : {a b : List ℕ} → Binary a → Binary b → Binary (a ++ b)
binary_append none q = q
binary_append (more h p) q = more h (binary_append p q)

pub binary_digits : (k w : ℕ) → Binary (digits k w)
unfolding digits
binary_digits zero w = none
binary_digits (suc k) w = more {d = w % 2} (omega arith) (binary_digits k (w / 2))

pub binary_bits : (ws : List ℕ) → Binary (bits ws)
unfolding bits
binary_bits [] = none
binary_bits (w ∷ ws) = binary_append (binary_digits 64 w) (binary_bits ws)

pub total_within : (ws : List ℕ) → total (bits ws) ≤ capacity ws
total_within ws = rw length_bits at (total_le (binary_bits ws))

pub first_within : (ws : List ℕ) → first_zero (bits ws) ≤ capacity ws
first_within ws = rw length_bits at (position_first 0 (bits ws)).within

-- a full table has no free place, and only a full one
pub full_none_free : (ws : List ℕ) → total (bits ws) ≡ capacity ws → first_zero (bits ws) ≡ capacity ws
full_none_free ws e = full_first (binary_bits ws) (e ∙ sym (length_bits ws)) ∙ length_bits ws

pub none_free_full : (ws : List ℕ) → first_zero (bits ws) ≡ capacity ws → total (bits ws) ≡ capacity ws
none_free_full ws e = first_full (binary_bits ws) (e ∙ sym (length_bits ws)) ∙ length_bits ws

-- ---- the places fix the words, so what a contract says of the places leaves no word open

digits_only : (k w v : ℕ) → w < 2 ^ k → v < 2 ^ k → digits k w ≡ digits k v → w ≡ v
unfolding digits
digits_only zero w v hw hv e = lt-one hw ∙ sym (lt-one hv)
digits_only (suc k) w v hw hv e =
    let lw : w < 2 ^ k * 2 = rw pow-suc at hw in
    let lv : v < 2 ^ k * 2 = rw pow-suc at hv in
    let low : w % 2 ≡ v % 2 = cc in
    let rest : digits k (w / 2) ≡ digits k (v / 2) = cc in
    omega (arith, digits_only k (w / 2) (v / 2) (omega arith) (omega arith) rest)

pub bits_only : (ws vs : List ℕ) → ((i : ℕ) → get_or ws i 0 < 2 ^ 64) → ((i : ℕ) → get_or vs i 0 < 2 ^ 64) → bits ws ≡ bits vs → ws ≡ vs
unfolding bits
bits_only [] [] hw hv e = refl
bits_only [] (v ∷ vs) hw hv e = absurd (omega (arith, ap length e, length_bits (v ∷ vs)))
bits_only (w ∷ ws) [] hw hv e = absurd (omega (arith, ap length e, length_bits (w ∷ ws)))
bits_only (w ∷ ws) (v ∷ vs) hw hv e =
    let front : digits 64 w ≡ digits 64 v =
    sym (take_at (digits 64 w) (bits ws) 64 (length_digits 64 w)) ∙ ap (take 64) e ∙ take_at (digits 64 v) (bits vs) 64 (length_digits 64 v) in
    let rest : bits ws ≡ bits vs =
    sym (drop_at (digits 64 w) (bits ws) 64 (length_digits 64 w)) ∙ ap (drop 64) e ∙ drop_at (digits 64 v) (bits vs) 64 (length_digits 64 v) in
    ap₂ (λ (x : ℕ) (l : List ℕ). x ∷ l)
    (digits_only 64 w v (hw 0) (hv 0) front)
    (bits_only ws vs (λ i. hw (suc i)) (λ i. hv (suc i)) rest)

-- ---- a table of words that are all zero: no place is taken

digits_zero : (k : ℕ) → digits k 0 ≡ replicate k 0
unfolding digits
digits_zero zero = refl
digits_zero (suc k) = ap (λ (l : List ℕ). 0 ∷ l) (digits_zero k)

pub fresh_bits : (m : ℕ) → bits (replicate m 0) ≡ filled 0 (m * 64)
unfolding bits
fresh_bits zero = refl
fresh_bits (suc m) =
    let e : 64 + m * 64 ≡ suc m * 64 = omega arith in
    ap₂ (λ (a b : List ℕ). a ++ b) (digits_zero 64) (fresh_bits m)
    ∙ replicate-append-replicate 64 (m * 64) 0
    ∙ ap (λ (n : ℕ). replicate n 0) e

pub fresh_low : (m : ℕ) → Low (bits (replicate m 0))
fresh_low m = rw (fresh_bits m) (filled_low 0 (m * 64))

pub fresh_total : (m : ℕ) → total (bits (replicate m 0)) ≡ 0
fresh_total m = ap total (fresh_bits m) ∙ total_filled 0 (m * 64)

-- ---- the lowest free place k of a Low table taken, as `occupy` takes it

module _ (ws ws' : List ℕ) (k : ℕ) (low : Low (bits ws)) (first : k ≡ first_zero (bits ws)) (room : k < capacity ws)
    (took : bits ws' ≡ set (bits ws) k 1) where
  -- the place is the number taken before
  pub next_at : k ≡ total (bits ws)
  next_at = first ∙ low_first (bits ws) low

  next_filled : bits ws' ≡ filled (suc (total (bits ws))) (length (bits ws) - suc (total (bits ws)))
  next_filled =
      took
      ∙ ap (λ (n : ℕ). set (bits ws) n 1) next_at
      ∙ low_set (bits ws) low (omega (arith, next_at, length_bits ws))

  pub next_total : total (bits ws') ≡ suc (total (bits ws))
  next_total = ap total next_filled ∙ total_filled (suc (total (bits ws))) (length (bits ws) - suc (total (bits ws)))

  pub next_low : Low (bits ws')
  next_low = rw next_filled (filled_low (suc (total (bits ws))) (length (bits ws) - suc (total (bits ws))))
