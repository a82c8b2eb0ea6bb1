-- The bits of bytes, and the check over them.
use Rattle.std.specs.Prelude.{ℕ, zero, suc, ◌+◌, ◌-◌, ◌*◌, ◌/◌, ◌%◌, ◌^◌, ◌≤◌, ◌<◌, ◌≡◌, refl, ◌⊎◌, List, [], ◌∷◌, ◌++◌, length, get_or, take, drop}
use Rattle.std.proofs.Common.{sym, ap, ap₂, ◌∙◌, inl, inr, arith, length-take, length-drop, take-append-drop, ext_get_or, get_or-take, get_or-drop}
use Rattle.std.proofs.Math.Nat.{zero-div}
use Rattle.std.proofs.Math.Seq.{take-nil, drop-nil}
use Rattle.std.specs.Int.Bits.{bit_xor}
use Rattle.format.specs.Bytes.{Bytes, byte_at}
use Rattle.format.specs.Crc.{crc_byte, crc_over}
use Rattle.format_laws.specs.Crc.{Octets, crc_byte_lt}
use Rattle.format_laws.specs.Octets.{octet_at, octets_drop}
use Rattle.crc_laws.specs.Register.{crc_bits, byte_bits}
use Rattle.bursts.specs.Words.{bit_at}
use Rattle.bursts.specs.Feed.{feed, Bits, none, more, feed_append, feed_lt, feed_injective, feed_window, feed_value, value}

unfoldable pub bits : Bytes → List ℕ
bits [] = []
bits (b ∷ l) = b / 128 % 2 ∷ b / 64 % 2 ∷ b / 32 % 2 ∷ b / 16 % 2 ∷ b / 8 % 2 ∷ b / 4 % 2 ∷ b / 2 % 2 ∷ b / 1 % 2 ∷ bits l

bit_lt : (x : ℕ) → x % 2 < 2
bit_lt x = omega arith

eight : (b : ℕ) {l : List ℕ} → Bits l → Bits (b / 128 % 2 ∷ b / 64 % 2 ∷ b / 32 % 2 ∷ b / 16 % 2 ∷ b / 8 % 2 ∷ b / 4 % 2 ∷ b / 2 % 2 ∷ b / 1 % 2 ∷ l)
eight b t =
    more (bit_lt (b / 128)) (more (bit_lt (b / 64)) (more (bit_lt (b / 32)) (more (bit_lt (b / 16))
    (more (bit_lt (b / 8)) (more (bit_lt (b / 4)) (more (bit_lt (b / 2)) (more (bit_lt (b / 1)) t)))))))

pub bits_bits : (l : Bytes) → Bits (bits l)
unfolding bits
bits_bits [] = none
bits_bits (b ∷ l) = eight b (bits_bits l)

pub length_bits : (l : Bytes) → length (bits l) ≡ length l * 8
unfolding bits
length_bits [] = refl
length_bits (b ∷ l) = omega (arith, length_bits l)

pub bits_at : (l : Bytes) (p : ℕ) → get_or (bits l) p 0 ≡ bit_at l p
unfolding bits bit_at
bits_at [] p = sym (ap (λ (x : ℕ). x % 2) (zero-div (2 ^ (7 - p % 8))))
bits_at (b ∷ l) zero = refl
bits_at (b ∷ l) (suc zero) = refl
bits_at (b ∷ l) (suc (suc zero)) = refl
bits_at (b ∷ l) (suc (suc (suc zero))) = refl
bits_at (b ∷ l) (suc (suc (suc (suc zero)))) = refl
bits_at (b ∷ l) (suc (suc (suc (suc (suc zero))))) = refl
bits_at (b ∷ l) (suc (suc (suc (suc (suc (suc zero)))))) = refl
bits_at (b ∷ l) (suc (suc (suc (suc (suc (suc (suc zero))))))) = refl
bits_at (b ∷ l) (suc (suc (suc (suc (suc (suc (suc (suc p)))))))) =
    let q : suc (suc (suc (suc (suc (suc (suc (suc p))))))) / 8 ≡ suc (p / 8) = omega arith in
    let r : suc (suc (suc (suc (suc (suc (suc (suc p))))))) % 8 ≡ p % 8 = omega arith in
    rw (q, r) (bits_at l p)

-- a byte by its bits
joined : (b c d e f g h i x₀ x₁ x₂ x₃ x₄ x₅ x₆ x₇ : ℕ)
    → b ≡ c * 2 + x₀ → c ≡ d * 2 + x₁ → d ≡ e * 2 + x₂ → e ≡ f * 2 + x₃ → f ≡ g * 2 + x₄ → g ≡ h * 2 + x₅ → h ≡ i * 2 + x₆ → i ≡ x₇
    → b ≡ x₇ * 128 + x₆ * 64 + x₅ * 32 + x₄ * 16 + x₃ * 8 + x₂ * 4 + x₁ * 2 + x₀
joined b c d e f g h i x₀ x₁ x₂ x₃ x₄ x₅ x₆ x₇ p₀ p₁ p₂ p₃ p₄ p₅ p₆ p₇ = omega arith

abbrev form : ℕ → ℕ → ℕ → ℕ → ℕ → ℕ → ℕ → ℕ → ℕ
form a b c d e f g h = a * 128 + b * 64 + c * 32 + d * 16 + e * 8 + f * 4 + g * 2 + h

byte_form : (b : ℕ) → b < 256
    → b ≡ form (b / 128 % 2) (b / 64 % 2) (b / 32 % 2) (b / 16 % 2) (b / 8 % 2) (b / 4 % 2) (b / 2 % 2) (b / 1 % 2)
byte_form b h =
    joined b (b / 2) (b / 4) (b / 8) (b / 16) (b / 32) (b / 64) (b / 128)
    (b / 1 % 2) (b / 2 % 2) (b / 4 % 2) (b / 8 % 2) (b / 16 % 2) (b / 32 % 2) (b / 64 % 2) (b / 128 % 2)
    (omega arith) (omega arith) (omega arith) (omega arith) (omega arith) (omega arith) (omega arith) (omega arith)

-- eight bits are a byte's step
byte_feed : (r b : ℕ) → r < 65536 → b < 256
    → feed r (b / 128 % 2 ∷ b / 64 % 2 ∷ b / 32 % 2 ∷ b / 16 % 2 ∷ b / 8 % 2 ∷ b / 4 % 2 ∷ b / 2 % 2 ∷ b / 1 % 2 ∷ []) ≡ crc_byte r b
unfolding value
byte_feed r b g h =
    feed_value r g (eight b none) (omega arith)
    ∙ ap (λ (v : ℕ). crc_bits 8 (bit_xor r v))
    (at_top (b / 128 % 2) (b / 64 % 2) (b / 32 % 2) (b / 16 % 2) (b / 8 % 2) (b / 4 % 2) (b / 2 % 2) (b / 1 % 2)
    ∙ ap (λ (x : ℕ). x * 256) (sym (byte_form b h)))
    ∙ sym (byte_bits r b)
  where
    at_top : (x₇ x₆ x₅ x₄ x₃ x₂ x₁ x₀ : ℕ) → value 16 (x₇ ∷ x₆ ∷ x₅ ∷ x₄ ∷ x₃ ∷ x₂ ∷ x₁ ∷ x₀ ∷ []) ≡ form x₇ x₆ x₅ x₄ x₃ x₂ x₁ x₀ * 256
    at_top x₇ x₆ x₅ x₄ x₃ x₂ x₁ x₀ = omega arith

pub feed_bits : (r : ℕ) (l : Bytes) → r < 65536 → Octets l → feed r (bits l) ≡ crc_over r l
unfolding feed bits crc_over
feed_bits r [] g o = refl
feed_bits r (b ∷ l) g o =
    let h = o.at 0 (omega arith) in
    ap (λ (x : ℕ). feed x (bits l)) (byte_feed r b g h) ∙ feed_bits (crc_byte r b) l (crc_byte_lt r b g h) (octets_drop 1 (b ∷ l) o)

-- bytes whose bits are the same are the same
byte_at_lem : (l : Bytes) (i j : ℕ) → j < 8 → bit_at l (i * 8 + j) ≡ byte_at l i / 2 ^ (7 - j) % 2
unfolding bit_at
byte_at_lem l i j h =
    let q : (i * 8 + j) / 8 ≡ i = omega arith in
    let r : (i * 8 + j) % 8 ≡ j = omega arith in
    rw (q, r)

byte_sum : (l : Bytes) → Octets l → (i : ℕ)
    → byte_at l i
    ≡ form (bit_at l (i * 8 + 0)) (bit_at l (i * 8 + 1)) (bit_at l (i * 8 + 2)) (bit_at l (i * 8 + 3))
    (bit_at l (i * 8 + 4)) (bit_at l (i * 8 + 5)) (bit_at l (i * 8 + 6)) (bit_at l (i * 8 + 7))
byte_sum l o i =
    rw (
      byte_at_lem l i 0 (omega arith),
      byte_at_lem l i 1 (omega arith),
      byte_at_lem l i 2 (omega arith),
      byte_at_lem l i 3 (omega arith),
      byte_at_lem l i 4 (omega arith),
      byte_at_lem l i 5 (omega arith),
      byte_at_lem l i 6 (omega arith),
      byte_at_lem l i 7 (omega arith),
    )
    (byte_form (byte_at l i) (octet_at l o i))

byte_same : (x y : Bytes) → Octets x → Octets y → (i : ℕ)
    → ((p : ℕ) → i * 8 ≤ p → p < i * 8 + 8 → bit_at x p ≡ bit_at y p) → byte_at x i ≡ byte_at y i
byte_same x y o u i e =
    byte_sum x o i
    ∙ (rw (at 0 (omega arith), at 1 (omega arith), at 2 (omega arith), at 3 (omega arith), at 4 (omega arith), at 5 (omega arith), at 6 (omega arith), at 7 (omega arith))
    (sym (byte_sum y u i)))
  where
    at : (j : ℕ) → j < 8 → bit_at x (i * 8 + j) ≡ bit_at y (i * 8 + j)
    at j h = e (i * 8 + j) (omega arith) (omega arith)

bytes_same : (x y : Bytes) → Octets x → Octets y → length x ≡ length y
    → ((p : ℕ) → p < length x * 8 → bit_at x p ≡ bit_at y p) → x ≡ y
bytes_same x y o u n e =
    ext_get_or 0 x y n (λ i h. byte_same x y o u i (λ p g k. e p (omega arith)))

-- the bits of a front
pub take_bit : (n : ℕ) (l : Bytes) (p : ℕ) → p < n * 8 → bit_at (take n l) p ≡ bit_at l p
unfolding bit_at
take_bit n l p h = rw (get_or-take n l (p / 8) 0 (omega arith))

bits_take : (n : ℕ) {l : List ℕ} → Bits l → Bits (take n l)
bits_take n none = rw take-nil none
bits_take zero (more h t) = none
bits_take (suc n) (more h t) = more h (bits_take n t)

bits_drop : (n : ℕ) {l : List ℕ} → Bits l → Bits (drop n l)
bits_drop n none = rw drop-nil none
bits_drop zero (more h t) = more h t
bits_drop (suc n) (more h t) = bits_drop n t

-- the three parts of a list about 16 numbers in a row
abbrev window : ℕ → List ℕ → List ℕ
window q l = take 16 (drop q l)

abbrev behind : ℕ → List ℕ → List ℕ
behind q l = drop 16 (drop q l)

parted : (q : ℕ) (l : List ℕ) → l ≡ take q l ++ (window q l ++ behind q l)
parted q l = sym (ap (λ (x : List ℕ). take q l ++ x) (take-append-drop 16 (drop q l)) ∙ take-append-drop q l)

feed_parted : (r q : ℕ) (l : List ℕ) → feed r l ≡ feed (feed (feed r (take q l)) (window q l)) (behind q l)
feed_parted r q l =
    ap (feed r) (parted q l) ∙ feed_append r (take q l) (window q l ++ behind q l) ∙ feed_append (feed r (take q l)) (window q l) (behind q l)

-- two lists of bits that differ only within 16 in a row, and lead from one register to the same register, are the same
module _ (r q : ℕ) (x y : List ℕ) (small : r < 65536) (o : Bits x) (u : Bits y) (long : length x ≡ length y)
    (outside : (p : ℕ) → p < length x → (p < q) ⊎ (q + 16 ≤ p) → get_or x p 0 ≡ get_or y p 0) where
  same_before : take q x ≡ take q y
  same_before =
      ext_get_or 0 (take q x) (take q y) (simp length-take (omega arith))
      (λ i h. let g = rw (length-take q x) at h in
      get_or-take q x i 0 (omega arith) ∙ outside i (omega arith) (inl (omega arith)) ∙ sym (get_or-take q y i 0 (omega arith)))

  behind_at : (l : List ℕ) (i : ℕ) → get_or (behind q l) i 0 ≡ get_or l (q + (16 + i)) 0
  behind_at l i = get_or-drop 16 (drop q l) i 0 ∙ get_or-drop q l (16 + i) 0

  same_behind : behind q x ≡ behind q y
  same_behind =
      ext_get_or 0 (behind q x) (behind q y) (simp length-drop (omega arith))
      (λ i h. let g = simp length-drop at h in
      behind_at x i ∙ outside (q + (16 + i)) (omega arith) (inr (omega arith)) ∙ sym (behind_at y i))

  feed_burst : feed r x ≡ feed r y → x ≡ y
  feed_burst e =
      let a = feed r (take q x) in
      let low = feed_lt r small (bits_take q o) in
      let ox = bits_take 16 (bits_drop q o) in
      let oy = bits_take 16 (bits_drop q u) in
      let ends : feed (feed a (window q x)) (behind q x) ≡ feed (feed a (window q y)) (behind q x) =
      sym (feed_parted r q x) ∙ e ∙ feed_parted r q y
      ∙ ap₂ (λ (m n : List ℕ). feed (feed (feed r m) (window q y)) n) (sym same_before) (sym same_behind) in
      let middle : window q x ≡ window q y =
      feed_window a low ox oy (simp (length-take, length-drop) (omega arith)) (simp (length-take, length-drop) (omega arith))
      (feed_injective _ _ (feed_lt a low ox) (feed_lt a low oy) (bits_drop 16 (bits_drop q o)) ends) in
      parted q x
      ∙ ap₂ ◌++◌ same_before (ap₂ ◌++◌ middle same_behind)
      ∙ sym (parted q y)

-- the same for bytes
module _ (r : ℕ) (x y : Bytes) (small : r < 65536) (o : Octets x) (u : Octets y) (long : length x ≡ length y) (q : ℕ)
    (outside : (p : ℕ) → p < length x * 8 → (p < q) ⊎ (q + 16 ≤ p) → bit_at x p ≡ bit_at y p) where
  pub crc_burst : crc_over r x ≡ crc_over r y → x ≡ y
  crc_burst e =
      let l = length_bits x in
      let m = length_bits y in
      let b : bits x ≡ bits y =
      feed_burst r q (bits x) (bits y) small (bits_bits x) (bits_bits y) (omega arith)
      (λ p h c. bits_at x p ∙ outside p (omega arith) c ∙ sym (bits_at y p))
      (feed_bits r x small o ∙ e ∙ sym (feed_bits r y small u)) in
      bytes_same x y o u long (λ p h. sym (bits_at x p) ∙ ap (λ (z : List ℕ). get_or z p 0) b ∙ bits_at y p)
