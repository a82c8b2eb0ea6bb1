-- In how many places two lists of bits differ; and two places that differ are seen.
use Rattle.std.specs.Prelude.{ℕ, suc, ◌+◌, ◌*◌, ◌≤◌, ◌<◌, ◌≡◌, refl, List, [], ◌∷◌, ◌++◌, Bool, true, false, cond, eqb, length}
use Rattle.std.proofs.Common.{sym, ap, ap₂, ◌∙◌, arith, zero-add, eqb-true}
use Rattle.std.specs.Int.Bits.{bit_xor, xor_self, xor_zero_r}
use Rattle.std.proofs.lemmas.Nat.{xor_lt}
use Rattle.std.proofs.lemmas.Bool.{eqb-false}
use Rattle.format.specs.Crc.{crc_bit}
use Rattle.crc_laws.specs.Xor.{xor_none, xor_middle}
use Rattle.crc_laws.specs.Register.{bit_linear, bit_injective, crc_bits}
use Rattle.crc_laws.specs.Order.{top_again}
use Rattle.bursts.specs.Feed.{two_bits, step, step_lt, feed, Bits, none, more, feed_injective}

-- 1 where two bits are not the same
abbrev pub other : ℕ → ℕ → ℕ
other x y = cond (eqb x y) 0 1

unfoldable pub dist : List ℕ → List ℕ → ℕ
dist [] m = 0
dist (x ∷ l) [] = 0
dist (x ∷ l) (y ∷ m) = other x y + dist l m

pub dist_append : (a b c d : List ℕ) → length a ≡ length c → dist (a ++ b) (c ++ d) ≡ dist a c + dist b d
unfolding dist
dist_append [] b [] d e = sym (zero-add (dist b d))
dist_append [] b (y ∷ c) d e = absurd (omega arith)
dist_append (x ∷ a) b [] d e = absurd (omega arith)
dist_append (x ∷ a) b (y ∷ c) d e = omega (arith, dist_append a b c d (omega arith))

-- two bits are the same or not
data Two (x y : ℕ) : Type 0 where
  same : x ≡ y → other x y ≡ 0 → Two x y
  apart : (x ≡ y → ⊥) → other x y ≡ 1 → Two x y

two : (x y : ℕ) → Two x y
two x y = go (eqb x y) refl
  where
    go : (b : Bool) → eqb x y ≡ b → Two x y
    go true e = same (eqb-true x y e) (rw e)
    go false e = apart (eqb-false x y e) (rw e)

-- nowhere apart
dist_none : (l m : List ℕ) → length l ≡ length m → dist l m ≡ 0 → l ≡ m
unfolding dist
dist_none [] [] e d = refl
dist_none [] (y ∷ m) e d = absurd (omega arith)
dist_none (x ∷ l) [] e d = absurd (omega arith)
dist_none (x ∷ l) (y ∷ m) e d = go (two x y) (dist_none l m (omega arith) (omega arith))
  where
    go : Two x y → l ≡ m → (x ∷ l) ≡ (y ∷ m)
    go (same p q) t = ap₂ ◌∷◌ p t
    go (apart p q) t = absurd (omega arith)

-- how registers differ after a bit
step_xor : (a b x y : ℕ) → a < 65536 → b < 65536 → x < 2 → y < 2
    → bit_xor (step a x) (step b y) ≡ crc_bit (bit_xor (bit_xor a b) (bit_xor (x * 32768) (y * 32768)))
step_xor a b x y g h k l =
    sym (bit_linear (bit_xor a (x * 32768)) (bit_xor b (y * 32768)) (xor_lt 16 a (x * 32768) g (omega arith)) (xor_lt 16 b (y * 32768) h (omega arith)))
    ∙ ap crc_bit (xor_middle a (x * 32768) b (y * 32768))

-- two bits that are not the same
top : (x y : ℕ) → x < 2 → y < 2 → (x ≡ y → ⊥) → bit_xor (x * 32768) (y * 32768) ≡ 0x8000
top =
    two_bits (λ (x y : ℕ). (x ≡ y → ⊥) → bit_xor (x * 32768) (y * 32768) ≡ 0x8000)
    (λ d. absurd (d refl)) (λ d. refl) (λ d. refl) (λ d. absurd (d refl))

-- one place apart, and one register behind: the registers differed in the top bit alone when that place came
one_apart : (a b : ℕ) {l m : List ℕ} → a < 65536 → b < 65536 → Bits l → Bits m → length l ≡ length m → dist l m ≡ 1 → feed a l ≡ feed b m
    → (j : ℕ) × (j < length l) × (crc_bits j (bit_xor a b) ≡ 0x8000)
unfolding dist feed crc_bits
one_apart a b g h none none e d f = absurd (omega arith)
one_apart a b g h none (more k t) e d f = absurd (omega arith)
one_apart a b g h (more k t) none e d f = absurd (omega arith)
one_apart a b g h (more {x = x} {l = l} k t) (more {x = y} {l = m} i u) e d f =
    go (two x y) (λ n. one_apart (step a x) (step b y) (step_lt a x g k) (step_lt b y h i) t u (omega arith) n f)
  where
    go : Two x y → (dist l m ≡ 1 → (j : ℕ) × (j < length l) × (crc_bits j (bit_xor (step a x) (step b y)) ≡ 0x8000))
        → (j : ℕ) × (j < suc (length l)) × (crc_bits j (bit_xor a b) ≡ 0x8000)
    go (same p q) ih =
        let r = ih (omega arith) in
        let z : bit_xor (step a x) (step b y) ≡ crc_bit (bit_xor a b) =
        step_xor a b x y g h k i ∙ ap (λ (v : ℕ). crc_bit (bit_xor (bit_xor a b) (bit_xor (x * 32768) (v * 32768)))) (sym p)
        ∙ ap (λ (v : ℕ). crc_bit (bit_xor (bit_xor a b) v)) (xor_self (x * 32768)) ∙ ap crc_bit (xor_zero_r (bit_xor a b)) in
        (suc r.0, omega (arith, r.1), ap (crc_bits r.0) (sym z) ∙ r.2)
    go (apart p q) ih =
        let lists : l ≡ m = dist_none l m (omega arith) (omega arith) in
        let ends : feed (step a x) l ≡ feed (step b y) l = f ∙ ap (feed (step b y)) (sym lists) in
        let meet : bit_xor a (x * 32768) ≡ bit_xor b (y * 32768) =
        bit_injective _ _ (xor_lt 16 a (x * 32768) g (omega arith)) (xor_lt 16 b (y * 32768) h (omega arith))
        (feed_injective (step a x) (step b y) (step_lt a x g k) (step_lt b y h i) t ends) in
        let none_left : bit_xor (bit_xor a b) (bit_xor (x * 32768) (y * 32768)) ≡ 0 =
        sym (xor_middle a (x * 32768) b (y * 32768)) ∙ ap (λ (v : ℕ). bit_xor v (bit_xor b (y * 32768))) meet ∙ xor_self (bit_xor b (y * 32768)) in
        (0, omega arith, xor_none _ _ none_left ∙ top x y k i p)

top_gone : crc_bit 0x8000 ≡ 0x1021
unfolding crc_bit
top_gone = refl

-- two places apart, in no more bits than a record can have
pub two_apart : (a : ℕ) {l m : List ℕ} → a < 65536 → Bits l → Bits m → length l ≡ length m → length l ≤ 16576 → dist l m ≡ 2 → feed a l ≡ feed a m → ⊥
unfolding dist feed
two_apart a g none none e n d f = absurd (omega arith)
two_apart a g none (more k t) e n d f = absurd (omega arith)
two_apart a g (more k t) none e n d f = absurd (omega arith)
two_apart a g (more {x = x} {l = l} k t) (more {x = y} {l = m} i u) e n d f =
    go (two x y) (λ o p. two_apart (step a x) (step_lt a x g k) t u (omega arith) (omega arith) o (f ∙ ap (λ (v : ℕ). feed (step a v) m) (sym p)))
  where
    go : Two x y → (dist l m ≡ 2 → x ≡ y → ⊥) → ⊥
    go (same p q) ih = ih (omega arith) p
    go (apart p q) ih =
        let r = one_apart (step a x) (step a y) (step_lt a x g k) (step_lt a y g i) t u (omega arith) (omega arith) f in
        let z : bit_xor (step a x) (step a y) ≡ 0x1021 =
        step_xor a a x y g g k i ∙ ap₂ (λ (v w : ℕ). crc_bit (bit_xor v w)) (xor_self a) (top x y k i p) ∙ top_gone in
        top_again r.0 (omega (arith, r.1)) (ap (crc_bits r.0) (sym z) ∙ r.2)
