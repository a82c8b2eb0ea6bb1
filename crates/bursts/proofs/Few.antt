-- One to three altered bits, in whichever parts they stand, are caught; and the bits altered of a record that is still one of its kind are even in number.
use Rattle.std.specs.Prelude.{ℕ, zero, suc, ◌+◌, ◌-◌, ◌*◌, ◌%◌, ◌≤◌, ◌<◌, ◌≡◌, true, List, [], ◌∷◌, ◌++◌, get_or, take}
use Rattle.std.proofs.Math.Path.{refl, sym, ap₂}
use Rattle.std.proofs.Common.{ap, ◌∙◌, add-zero, add-suc, take-append-drop, length-take-le, drop-cons}
use native.Mathlib.Omega.{arith}
use Rattle.std.proofs.Math.ListN.{length, drop, length-drop}
use Rattle.format.specs.Bytes.{Bytes, byte_at}
use Rattle.format.specs.Record.{Kind, declared_size, acceptable, record_size}
use Rattle.bursts.specs.Words.{bit_at, altered_bits, Few, Damaged}
use Rattle.bursts.specs.Feed.{feed}
use Rattle.bursts.specs.Bits.{bits, bits_bits, length_bits, bits_at, feed_bits, take_bit}
use Rattle.bursts.specs.Codeword.{codeword, Checked, code_long, code_bytes, code_zero}
use Rattle.bursts.proofs.Accepted.{before, after}
use Rattle.bursts.specs.Magics.{Turned}
use Rattle.bursts.proofs.Magics.{lawful, turned, neither}
use Rattle.bursts.specs.Distance.{other, dist, dist_append, two_apart}
use Rattle.bursts.specs.Parity.{even_apart}

-- ---- the number of altered bits is the distance of the lists of bits

total : (ℕ → ℕ) → ℕ → ℕ
total f zero = 0
total f (suc m) = total f m + f m

total_head : (f : ℕ → ℕ) (m : ℕ) → total f (suc m) ≡ f 0 + total (λ p. f (suc p)) m
unfolding total
total_head f zero = omega arith
total_head f (suc m) = omega (arith, total_head f m)

total_dist : (l m : List ℕ) → length l ≡ length m → total (λ p. other (get_or l p 0) (get_or m p 0)) (length l) ≡ dist l m
unfolding total dist
total_dist [] m e = refl
total_dist (x ∷ l) [] e = absurd (omega arith)
total_dist (x ∷ l) (y ∷ m) e =
    total_head (λ p. other (get_or (x ∷ l) p 0) (get_or (y ∷ m) p 0)) (length l) ∙ ap (λ (d : ℕ). other x y + d) (total_dist l m (omega arith))

altered_total : (m : ℕ) (t s : Bytes) (f : ℕ → ℕ) → ((p : ℕ) → p < m → other (bit_at t p) (bit_at s p) ≡ f p) → altered_bits m t s ≡ total f m
unfolding altered_bits total
altered_total zero t s f e = refl
altered_total (suc m) t s f e = ap₂ ◌+◌ (altered_total m t s f (λ p h. e p (omega arith))) (e m (omega arith))

abbrev apart : Bytes → Bytes → ℕ
apart a b = dist (bits a) (bits b)

altered_apart : (n : ℕ) (t s : Bytes) → length (take n t) ≡ n → length (take n s) ≡ n → altered_bits (n * 8) t s ≡ apart (take n t) (take n s)
altered_apart n t s g h =
    let x = take n t in
    let y = take n s in
    let lx = length_bits x in
    let ly = length_bits y in
    let long : length (bits x) ≡ n * 8 = omega arith in
    altered_total (n * 8) t s (λ p. other (get_or (bits x) p 0) (get_or (bits y) p 0))
    (λ p l. sym (ap₂ other (bits_at x p ∙ take_bit n t p l) (bits_at y p ∙ take_bit n s p l)))
    ∙ ap (total (λ p. other (get_or (bits x) p 0) (get_or (bits y) p 0))) (sym long)
    ∙ total_dist (bits x) (bits y) (omega arith)

-- ---- the codewords of two records are as far apart as the records

bits_append : (a b : Bytes) → bits (a ++ b) ≡ bits a ++ bits b
unfolding bits
bits_append [] b = refl
bits_append (x ∷ a) b = rw (bits_append a b)

apart_append : (a b d e : Bytes) → length a ≡ length d → apart (a ++ b) (d ++ e) ≡ apart a d + apart b e
apart_append a b d e h =
    let la = length_bits a in
    let ld = length_bits d in
    ap₂ dist (bits_append a b) (bits_append d e) ∙ dist_append (bits a) (bits b) (bits d) (bits e) (omega arith)

module _ {k : Kind} {n : ℕ} {x y : Bytes} (a : Checked k n x) (b : Checked k n y) where
  abbrev c : ℕ
  c = k.check_offset

  abbrev h : ℕ
  h = k.header_size

  abbrev low : Bytes → Bytes
  low z = byte_at z c ∷ []

  abbrev high : Bytes → Bytes
  high z = byte_at z (c + 1) ∷ []

  -- the parts in the order in which they stand
  in_order : (z : Bytes) → length z ≡ n → z ≡ take c z ++ (low z ++ (high z ++ drop h z))
  in_order z e =
      let l = a.last in
      let r = a.room in
      let one : suc c ≡ c + 1 = omega arith in
      let two : suc (c + 1) ≡ h = omega arith in
      sym (take-append-drop c z)
      ∙ ap (λ (l : Bytes). take c z ++ l)
      (drop-cons z c 0 (omega arith)
      ∙ ap (λ (i : ℕ). byte_at z c ∷ drop i z) one
      ∙ ap (λ (l : Bytes). byte_at z c ∷ l) (drop-cons z (c + 1) 0 (omega arith) ∙ ap (λ (i : ℕ). byte_at z (c + 1) ∷ drop i z) two))

  header_long : (z : Bytes) → length z ≡ n → length (take c z) ≡ c
  header_long z e = length-take-le c z (omega (arith, a.last, a.room))

  same_apart : apart x y ≡ apart (codeword k x) (codeword k y)
  unfolding codeword
  same_apart =
      let headers : length (take c x) ≡ length (take c y) = header_long x a.long ∙ sym (header_long y b.long) in
      let bodies : length (drop h x) ≡ length (drop h y) = rw (length-drop h x, length-drop h y, a.long, b.long) in
      let whole = ap₂ apart (in_order x a.long) (in_order y b.long) in
      let p₁ = apart_append (take c x) (low x ++ (high x ++ drop h x)) (take c y) (low y ++ (high y ++ drop h y)) headers in
      let p₂ = apart_append (low x) (high x ++ drop h x) (low y) (high y ++ drop h y) refl in
      let p₃ = apart_append (high x) (drop h x) (high y) (drop h y) refl in
      let q₁ = apart_append (take c x) (drop h x ++ (high x ++ low x)) (take c y) (drop h y ++ (high y ++ low y)) headers in
      let q₂ = apart_append (drop h x) (high x ++ low x) (drop h y) (high y ++ low y) bodies in
      let q₃ = apart_append (high x) (low x) (high y) (low y) refl in
      omega arith

  -- ---- and those are an even number of bits apart, and not two

  code_bits : {z : Bytes} → Checked k n z → length (bits (codeword k z)) ≡ n * 8
  code_bits {z} w = length_bits (codeword k z) ∙ ap (λ (m : ℕ). m * 8) (code_long w)

  code_feed : {z : Bytes} → Checked k n z → feed 0 (bits (codeword k z)) ≡ 0
  code_feed {z} w = feed_bits 0 (codeword k z) (omega arith) (code_bytes w) ∙ code_zero w

  even : apart x y % 2 ≡ 0
  even =
      rw same_apart
      (even_apart 0 (omega arith) (bits_bits (codeword k x)) (bits_bits (codeword k y)) (code_bits a ∙ sym (code_bits b))
      (code_feed a ∙ sym (code_feed b)))

  not_two : apart x y ≡ 2 → ⊥
  not_two e =
      let s = a.short in
      let l = code_bits a in
      two_apart 0 (omega arith) (bits_bits (codeword k x)) (bits_bits (codeword k y)) (code_bits a ∙ sym (code_bits b)) (omega arith)
      (sym same_apart ∙ e) (code_feed a ∙ sym (code_feed b))

-- ---- a damaged record, if it were acceptable still

module _ (k : Kind) (t s : Bytes) (d : Damaged k t s) (c : acceptable k s ≡ true) where
  abbrev n : ℕ
  n = declared_size k t

  as_apart : altered_bits (n * 8) t s ≡ apart (take n t) (take n s)
  as_apart = altered_apart n t s (before d).long (after d c).long

  pub altered_even : altered_bits (n * 8) t s % 2 ≡ 0
  altered_even = rw as_apart (even (before d) (after d c))

  not_few : Few n t s → ⊥
  not_few f =
      let e = altered_even in
      let l = f.least in
      let m = f.most in
      not_two (before d) (after d c) (sym as_apart ∙ omega arith)

altered_more : (m j : ℕ) (t s : Bytes) → altered_bits m t s ≤ altered_bits (m + j) t s
unfolding altered_bits
altered_more m zero t s = rw (add-zero m) (omega arith)
altered_more m (suc j) t s = rw (add-suc m j) (omega (arith, altered_more m j t s))

pub few_caught : (k : Kind) (t s : Bytes) → Damaged k t s → Few (declared_size k t) t s → record_size s ≡ 0
few_caught k t s d f =
    neither d.kind s (λ c. not_few k t s d c f) (λ c. many (turned d c))
  where
    -- the magics are 16 bits apart
    many : Turned t s → ⊥
    many m =
        let n = declared_size k t in
        let h = (lawful d.kind).magic_inside in
        let q : 32 + (n * 8 - 32) ≡ n * 8 = omega arith in
        omega (arith, m.sixteen, f.most, rw q at (altered_more 32 (n * 8 - 32) t s))
