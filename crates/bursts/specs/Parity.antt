-- The polynomial has an even number of terms: the register keeps count, odd or even, of the bits taken.
use Rattle.std.specs.Prelude.{ℕ, zero, suc, ◌+◌, ◌*◌, ◌/◌, ◌%◌, ◌^◌, ◌<◌, ◌≡◌, refl, List, [], ◌∷◌, length}
use Rattle.std.proofs.Common.{sym, ap, ap₂, ◌∙◌, arith, add-zero}
use Rattle.std.proofs.Math.Arith.{bin_ind}
use Rattle.std.specs.Int.Bits.{bit_xor, differ}
use Rattle.std.proofs.lemmas.Nat.{xor_lt, ones_cat}
use Rattle.std.specs.Int.Count.{ones_in, ones, ones_step}
use Rattle.format.specs.Crc.{crc_bit}
use Rattle.crc_laws.specs.Xor.{xor_half, xor_odd}
use Rattle.crc_laws.specs.Register.{bit_form}
use Rattle.bursts.specs.Feed.{two_bits, step, step_lt, feed, Bits, none, more}
use Rattle.bursts.specs.Distance.{other, dist}

differ_sum : (x y : ℕ) → x < 2 → y < 2 → differ x y % 2 ≡ (x + y) % 2
differ_sum = two_bits (λ (x y : ℕ). differ x y % 2 ≡ (x + y) % 2) refl refl refl refl

sums : (d x y p q r : ℕ) → d % 2 ≡ (x + y) % 2 → p % 2 ≡ (q + r) % 2 → (d + p) % 2 ≡ (x + q + (y + r)) % 2
sums d x y p q r e f = omega arith

ones_none : ones 0 ≡ 0
unfolding ones ones_in
ones_none = refl

ones_xor : (a b : ℕ) → ones (bit_xor a b) % 2 ≡ (ones a + ones b) % 2
ones_xor =
    bin_ind (λ (a : ℕ). (b : ℕ) → ones (bit_xor a b) % 2 ≡ (ones a + ones b) % 2) (λ b. omega (arith, ones_none))
    (λ a ih b.
    ap (λ (x : ℕ). x % 2) (ones_step (bit_xor a b) ∙ ap₂ (λ (x y : ℕ). x + ones y) (xor_odd a b) (xor_half a b))
    ∙ sums (differ (a % 2) (b % 2)) (a % 2) (b % 2) (ones (bit_xor (a / 2) (b / 2))) (ones (a / 2)) (ones (b / 2))
    (differ_sum (a % 2) (b % 2) (omega arith) (omega arith)) (ih (b / 2))
    ∙ sym (ap₂ (λ (x y : ℕ). (x + y) % 2) (ones_step a) (ones_step b)))

-- room below changes nothing
ones_shifted : (k x : ℕ) → 0 < 2 ^ k → ones (x * 2 ^ k) ≡ ones x
ones_shifted k x h = ap ones (sym (add-zero (x * 2 ^ k))) ∙ ones_cat k x 0 h ∙ omega (arith, ones_none)

-- a bit, and the polynomial that is added for it
ones_one : (x : ℕ) → x < 2 → ones x ≡ x
unfolding ones ones_in
ones_one zero h = refl
ones_one (suc zero) h = refl
ones_one (suc (suc x)) h = absurd (omega arith)

ones_polynomial : (x : ℕ) → x < 2 → ones (x * 0x1021) % 2 ≡ x
unfolding ones ones_in
ones_polynomial zero h = refl
ones_polynomial (suc zero) h = refl
ones_polynomial (suc (suc x)) h = absurd (omega arith)

ones_bit : (r : ℕ) → r < 65536 → ones (crc_bit r) % 2 ≡ ones r % 2
ones_bit r h =
    let m = r % 32768 in
    let t = r / 32768 in
    let b : t < 2 = omega arith in
    let whole : r ≡ t * 2 ^ 15 + m = omega arith in
    ap (λ (x : ℕ). ones x % 2) (bit_form r h)
    ∙ ones_xor (m * 2) (t * 0x1021)
    ∙ both (ones (m * 2)) (ones m) (ones (t * 0x1021)) (ones t) (ones r) t
    (ones_shifted 1 m (omega arith)) (ones_polynomial t b) (ones_one t b) (ap ones whole ∙ ones_cat 15 t m (omega arith))
  where
    both : (d p q x y t : ℕ) → d ≡ p → q % 2 ≡ t → x ≡ t → y ≡ x + p → (d + q) % 2 ≡ y % 2
    both d p q x y t a b c e = omega arith

-- how many bits of a list are set
weight : List ℕ → ℕ
weight [] = 0
weight (x ∷ l) = x + weight l

ones_feed : (r : ℕ) {l : List ℕ} → r < 65536 → Bits l → ones (feed r l) % 2 ≡ (ones r + weight l) % 2
unfolding feed weight
ones_feed r g none = omega arith
ones_feed r g (more {x = x} {l = l} k t) =
    ones_feed (step r x) (step_lt r x g k) t
    ∙ added (ones (step r x)) (ones (bit_xor r (x * 32768))) (ones r) (ones (x * 32768)) (weight l)
    (ones_bit (bit_xor r (x * 32768)) (xor_lt 16 r (x * 32768) g (omega arith))) (ones_xor r (x * 32768)) (ones_shifted 15 x (omega arith) ∙ ones_one x k)
  where
    added : (a b c d n : ℕ) → a % 2 ≡ b % 2 → b % 2 ≡ (c + d) % 2 → d ≡ x → (a + n) % 2 ≡ (c + (x + n)) % 2
    added a b c d n p q e = omega arith

other_sum : (x y : ℕ) → x < 2 → y < 2 → other x y % 2 ≡ (x + y) % 2
other_sum = two_bits (λ (x y : ℕ). other x y % 2 ≡ (x + y) % 2) refl refl refl refl

dist_weight : {l m : List ℕ} → Bits l → Bits m → length l ≡ length m → dist l m % 2 ≡ (weight l + weight m) % 2
unfolding dist weight
dist_weight none none e = refl
dist_weight none (more k t) e = absurd (omega arith)
dist_weight (more k t) none e = absurd (omega arith)
dist_weight (more {x = x} {l = l} k t) (more {x = y} {l = m} i u) e =
    sums (other x y) x y (dist l m) (weight l) (weight m) (other_sum x y k i) (dist_weight t u (omega arith))

-- messages of one length with one check are an even number of places apart
pub even_apart : (r : ℕ) {l m : List ℕ} → r < 65536 → Bits l → Bits m → length l ≡ length m → feed r l ≡ feed r m → dist l m % 2 ≡ 0
even_apart r {l} {m} g t u e f =
    dist_weight t u e
    ∙ halves (ones r) (weight l) (weight m) (sym (ones_feed r g t) ∙ ap (λ (x : ℕ). ones x % 2) f ∙ ones_feed r g u)
  where
    halves : (p a b : ℕ) → (p + a) % 2 ≡ (p + b) % 2 → (a + b) % 2 ≡ 0
    halves p a b q = omega arith
