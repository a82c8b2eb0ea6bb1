-- A number in decimal digits, spelt from its last digit on.
use Rattle.std.specs.Prelude.{ℕ, zero, suc, ◌+◌, ◌-◌, ◌/◌, ◌%◌, ◌^◌, ◌≤◌, ◌<◌, ◌≡◌, refl, Bool, true, false, cond, ◌∷◌, ◌++◌, length, drop, set, ltb}
use Rattle.std.proofs.Common.{sym, ap, subst, ◌∙◌, append-nil, append_assoc, arith, pow-suc, div-lt_iff_lt-mul, sub-one, length-set, length-append, drop_of_length-le, drop-cons, drop-set-lt, get_or-set_same, lt-ltb, le-ltb, ne_eqb}
use Rattle.format.specs.Bytes.{Bytes}
use Rattle.volume_laws.specs.Lists.{map_append}
use Rattle.volume.specs.Listing.{digit, digits_within, decimal, printed}

-- a tenth has one digit less
tenth : (k n : ℕ) → n < 10 ^ suc k → n / 10 < 10 ^ k
tenth k n h = (div-lt_iff_lt-mul {k = 10} {x = n} {y = 10 ^ k} (omega arith)).1 (subst (λ (m : ℕ). n < m) (pow-suc 10 k) h)

small_power : (n : ℕ) → n < 10 ^ n
small_power zero = omega arith
small_power (suc n) = let h = small_power n in let e = pow-suc 10 n in omega arith

-- any two numbers of digits that are enough spell alike
enough : (k j n : ℕ) → n < 10 ^ suc k → n < 10 ^ suc j → digits_within (suc k) n ≡ digits_within (suc j) n
unfolding digits_within
enough zero zero n h g = refl
enough zero (suc j) n h g = rw (lt-ltb n 10 (omega arith))
enough (suc k) zero n h g = rw (lt-ltb n 10 (omega arith))
enough (suc k) (suc j) n h g = rw (enough k j (n / 10) (tenth (suc k) n h) (tenth (suc j) n g))

-- so ten digits spell a number of 32 bits
pub ten_enough : (n : ℕ) → n < 4294967296 → digits_within 10 n ≡ decimal n
unfolding decimal
ten_enough n h = enough 9 n n (omega arith) (let p = small_power n in let e = pow-suc 10 n in omega arith)

pub short_decimal : (n : ℕ) → n < 4294967296 → length (decimal n) ≤ 10
unfolding digits_within
short_decimal n h = rw (← ten_enough n h) (go 10 n)
  where
    one : (k n : ℕ) (b : Bool) → length (digits_within k (n / 10)) ≤ k
        → length (cond b (digit n) (digits_within k (n / 10) ++ digit (n % 10))) ≤ suc k
    one k n true h = omega arith
    one k n false h = omega (arith, length-append (digits_within k (n / 10)) (digit (n % 10)))

    go : (k n : ℕ) → length (digits_within k n) ≤ k
    go zero n = omega arith
    go (suc k) n = one k n (ltb n 10) (go k (n / 10))

-- `rest` is still to be spelt, into the places up to `place`
pub record Spelling (n place rest : ℕ) (digits : Bytes) : Type 0 where
  pub within : place < 10
  pub long : length digits ≡ 10
  pub small : rest < 10 ^ suc place
  pub spelt : digits_within (suc place) rest ++ drop (suc place) digits ≡ decimal n

pub spelling_begins : (n : ℕ) (digits : Bytes) → n < 4294967296 → length digits ≡ 10 → Spelling n 9 n digits
spelling_begins n digits h l = record {
  within = omega arith;
  long = l;
  small = omega arith;
  spelt = ap (λ (r : Bytes). digits_within 10 n ++ r) (drop_of_length-le digits {i = 10} (omega arith)) ∙ append-nil (digits_within 10 n) ∙ ten_enough n h;
}

-- a digit that is stored stands before those that were
stored : (n place rest : ℕ) (digits : Bytes) → Spelling n place rest digits → (d : ℕ)
    → drop place (set digits place d) ≡ d ∷ drop (suc place) digits
stored n place rest digits s d =
    let l : place < length (set digits place d) = omega (arith, length-set digits place d, s.within, s.long) in
    drop-cons (set digits place d) place 0 l
    ∙ rw (get_or-set_same digits place d 0 (omega (arith, s.within, s.long)), drop-set-lt (suc place) digits place d (omega arith))

pub spelling_ends : (n place rest : ℕ) (digits : Bytes) → Spelling n place rest digits → rest < 10
    → drop place (set digits place (48 + rest)) ≡ decimal n
unfolding digits_within
spelling_ends n place rest digits s h = let e = s.spelt in stored n place rest digits s (48 + rest) ∙ rw (lt-ltb rest 10 h) at e

pub spelling_step : (n place rest : ℕ) (digits : Bytes) → Spelling n place rest digits → 10 ≤ rest
    → Spelling n (place - 1) (rest / 10) (set digits place (48 + rest % 10))
unfolding digits_within
spelling_step n zero rest digits s h = let l = s.small in absurd (omega arith)
spelling_step n (suc p) rest digits s h =
    let e = s.spelt in
    let more : (digits_within (suc p) (rest / 10) ++ digit (rest % 10)) ++ drop (suc (suc p)) digits ≡ decimal n = rw (le-ltb rest 10 h) at e in
    rw sub-one record {
      within = omega (arith, s.within);
      long = length-set digits (suc p) (48 + rest % 10) ∙ s.long;
      small = tenth (suc p) rest s.small;
      spelt = ap (λ (r : Bytes). digits_within (suc p) (rest / 10) ++ r) (stored n (suc p) rest digits s (48 + rest % 10))
          ∙ sym (append_assoc (digits_within (suc p) (rest / 10)) (digit (rest % 10)) (drop (suc (suc p)) digits)) ∙ more;
    }

-- no digit is a newline
plain : (d : ℕ) → printed (digit d) ≡ digit d
plain d = rw (ne_eqb (48 + d) 10 (λ e. omega (arith, e)))

pub printed_decimal : (n : ℕ) → printed (decimal n) ≡ decimal n
unfolding decimal digits_within
printed_decimal n = go (suc n) n
  where
    one : (k n : ℕ) (b : Bool) → printed (digits_within k (n / 10)) ≡ digits_within k (n / 10)
        → printed (cond b (digit n) (digits_within k (n / 10) ++ digit (n % 10))) ≡ cond b (digit n) (digits_within k (n / 10) ++ digit (n % 10))
    one k n true ih = plain n
    one k n false ih = map_append _ (digits_within k (n / 10)) (digit (n % 10)) ∙ rw (ih, plain (n % 10))

    go : (k n : ℕ) → printed (digits_within k n) ≡ digits_within k n
    go zero n = refl
    go (suc k) n = one k n (ltb n 10) (go k (n / 10))
