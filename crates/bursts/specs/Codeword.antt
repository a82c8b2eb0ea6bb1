-- The codeword of a record: where the record's bits stand in it, and its check, which is 0 if the record's check is right.
use Prim.Native.Nat.{ℕ, ◌+◌, ◌-◌, ◌*◌, ◌/◌, ◌%◌, ◌≤◌, ◌<◌}
use Rattle.std.specs.Prelude.{◌≡◌, refl, [], ◌∷◌, ◌++◌, length, take, drop}
use Rattle.std.proofs.Common.{sym, ◌∙◌, length-drop, get_or-drop, get_or-append-add, length-take-le}
use Rattle.std.proofs.Math.Path.{ap, ap₂}
use native.Mathlib.Omega.{arith}
use Rattle.std.proofs.Math.Decide.{dec_lt}
use Rattle.std.proofs.Math.ListN.{length-append, get_or-append}
use Rattle.std.proofs.Math.Seq.{get_or-take}
use Rattle.std.specs.Int.Bits.{bit_xor, xor_self}
use Rattle.format.specs.Bytes.{Bytes, byte_at, le16}
use Rattle.format.specs.Crc.{crc_bit, crc_over, check}
use Rattle.format.specs.Record.{Kind}
use Rattle.format_laws.specs.Crc.{Octets, crc_append}
use Rattle.format_laws.specs.Encoding.{octets_none, octets_cons}
use Rattle.format_laws.specs.Octets.{octet_at, octets_take, octets_drop, octets_append}
use Rattle.crc_laws.specs.Register.{crc_bits}
use Rattle.crc_laws.specs.Bytes.{two_bytes}
use Rattle.bursts.specs.Words.{bit_at}

-- a whole record's bytes in the order in which the check takes them, and then the check field, its high byte first
unfoldable pub codeword : Kind → Bytes → Bytes
codeword k b =
    take k.check_offset b ++ (drop k.header_size b ++ (byte_at b (k.check_offset + 1) ∷ byte_at b k.check_offset ∷ []))

-- a byte of the second of two parts
behind : (a b : Bytes) (n i : ℕ) → length a ≡ n → n ≤ i → byte_at (a ++ b) i ≡ byte_at b (i - n)
behind a b n i e h =
    let q : length a + (i - n) ≡ i = omega arith in
    sym (ap (byte_at (a ++ b)) q) ∙ get_or-append-add a b (i - n) 0

-- ---- where bits stand

-- the bit at the place p of a record of n bytes, whose check field is the bytes c and c + 1, is at the place q of its codeword
pub data Place (c n p q : ℕ) : Type 0 where
  in_header : p < c * 8 → q ≡ p → Place c n p q
  in_body : c * 8 + 16 ≤ p → p < n * 8 → q + 16 ≡ p → Place c n p q
  in_high : c * 8 + 8 ≤ p → p < c * 8 + 16 → q + (c * 8 + 24) ≡ p + n * 8 → Place c n p q
  in_low : c * 8 ≤ p → p < c * 8 + 8 → q + (c * 8 + 8) ≡ p + n * 8 → Place c n p q

pub place_of : (c n p : ℕ) → c + 2 ≤ n → p < n * 8 → (q : ℕ) × (q < n * 8) × Place c n p q
place_of c n p r h = go (dec_lt p (c * 8)) (dec_lt p (c * 8 + 8)) (dec_lt p (c * 8 + 16))
  where
    go : Dec (p < c * 8) → Dec (p < c * 8 + 8) → Dec (p < c * 8 + 16) → (q : ℕ) × (q < n * 8) × Place c n p q
    go (yes a) b d = (p, h, in_header a refl)
    go (no a) (yes b) d = (p + n * 8 - (c * 8 + 8), omega arith, in_low (omega arith) b (omega arith))
    go (no a) (no b) (yes d) = (p + n * 8 - (c * 8 + 24), omega arith, in_high (omega arith) d (omega arith))
    go (no a) (no b) (no d) = (p - 16, omega arith, in_body (omega arith) h (omega arith))

pub placed_at : (c n q : ℕ) → c + 2 ≤ n → q < n * 8 → (p : ℕ) × (p < n * 8) × Place c n p q
placed_at c n q r h = go (dec_lt q (c * 8)) (dec_lt (q + 16) (n * 8)) (dec_lt (q + 8) (n * 8))
  where
    go : Dec (q < c * 8) → Dec (q + 16 < n * 8) → Dec (q + 8 < n * 8) → (p : ℕ) × (p < n * 8) × Place c n p q
    go (yes a) b d = (q, h, in_header a refl)
    go (no a) (yes b) d = (q + 16, b, in_body (omega arith) b refl)
    go (no a) (no b) (yes d) = (q + (c * 8 + 24) - n * 8, omega arith, in_high (omega arith) (omega arith) (omega arith))
    go (no a) (no b) (no d) = (q + (c * 8 + 8) - n * 8, omega arith, in_low (omega arith) (omega arith) (omega arith))

-- ---- a register, taken on by its own bytes, is gone

bits_zero : crc_bits 16 0 ≡ 0
unfolding crc_bits crc_bit
bits_zero = refl

own_bytes : (high low : ℕ) → high < 256 → low < 256 → crc_over (low + high * 256) (high ∷ low ∷ []) ≡ 0
unfolding crc_over
own_bytes high low g h =
    let e : low + high * 256 ≡ high * 256 + low = omega arith in
    two_bytes (low + high * 256) high low (omega arith) g h
    ∙ ap (λ (r : ℕ). crc_bits 16 (bit_xor r (high * 256 + low))) e
    ∙ ap (crc_bits 16) (xor_self (high * 256 + low))
    ∙ bits_zero

-- ---- the codeword of a record

-- x is a record of n bytes of the kind k, by what the check asks of it
pub record Checked (k : Kind) (n : ℕ) (x : Bytes) : Type 0 where
  -- the check field is the last two bytes of the header
  pub last : k.header_size ≡ k.check_offset + 2
  pub room : k.header_size ≤ n
  pub short : n ≤ 2072
  pub long : length x ≡ n
  pub bytes : Octets x
  pub right : le16 x k.check_offset ≡ check (take k.check_offset x) (drop k.header_size x)

module _ {k : Kind} {n : ℕ} {x : Bytes} (w : Checked k n x) where
  open w use {last, room, long, bytes}

  abbrev c : ℕ
  c = k.check_offset

  abbrev h : ℕ
  h = k.header_size

  abbrev field : Bytes
  field = byte_at x (c + 1) ∷ byte_at x c ∷ []

  header_long : length (take c x) ≡ c
  header_long = length-take-le c x (omega arith)

  body_long : length (drop h x) ≡ n - h
  body_long = length-drop h x ∙ ap (λ (m : ℕ). m - h) long

  pub code_long : length (codeword k x) ≡ n
  unfolding codeword
  code_long =
      length-append (take c x) (drop h x ++ field)
      ∙ ap₂ ◌+◌ header_long (length-append (drop h x) field ∙ ap (λ (m : ℕ). m + 2) body_long)
      ∙ omega arith

  byte_lt : (i : ℕ) → byte_at x i < 256
  byte_lt = octet_at x bytes

  pub code_bytes : Octets (codeword k x)
  unfolding codeword
  code_bytes =
      octets_append (take c x) (drop h x ++ field) (octets_take c x bytes)
      (octets_append (drop h x) field (octets_drop h x bytes)
      (octets_cons (byte_at x (c + 1)) (byte_lt (c + 1)) (octets_cons (byte_at x c) (byte_lt c) octets_none)))

  -- the bytes of the codeword
  header_byte : (i : ℕ) → i < c → byte_at (codeword k x) i ≡ byte_at x i
  unfolding codeword
  header_byte i g = get_or-append (take c x) (drop h x ++ field) 0 i (omega (arith, header_long)) ∙ get_or-take c x i 0 g

  behind_header : (i : ℕ) → c ≤ i → byte_at (codeword k x) i ≡ byte_at (drop h x ++ field) (i - c)
  unfolding codeword
  behind_header i g = behind (take c x) (drop h x ++ field) c i header_long g

  body_byte : (i : ℕ) → c ≤ i → i + 2 < n → byte_at (codeword k x) i ≡ byte_at x (i + 2)
  body_byte i g l =
      let q : h + (i - c) ≡ i + 2 = omega arith in
      behind_header i g
      ∙ get_or-append (drop h x) field 0 (i - c) (omega (arith, body_long))
      ∙ get_or-drop h x (i - c) 0
      ∙ ap (byte_at x) q

  field_byte : (i : ℕ) → i < 2 → byte_at (codeword k x) (n - 2 + i) ≡ byte_at field i
  field_byte i g =
      let q : n - 2 + i - c - (n - h) ≡ i = omega arith in
      behind_header (n - 2 + i) (omega arith)
      ∙ behind (drop h x) field (n - h) (n - 2 + i - c) body_long (omega arith)
      ∙ ap (byte_at field) q

  -- a bit of the codeword is the record's
  same_bit : (p q : ℕ) → q % 8 ≡ p % 8 → byte_at (codeword k x) (q / 8) ≡ byte_at x (p / 8) → bit_at (codeword k x) q ≡ bit_at x p
  unfolding bit_at
  same_bit p q e b = rw (e, b)

  pub place_bit : (p q : ℕ) → Place c n p q → bit_at (codeword k x) q ≡ bit_at x p
  place_bit p q (in_header a e) = rw e (same_bit p p refl (header_byte (p / 8) (omega arith)))
  place_bit p q (in_body a b e) =
      let i : q / 8 + 2 ≡ p / 8 = omega arith in
      same_bit p q (omega arith) (body_byte (q / 8) (omega arith) (omega arith) ∙ ap (byte_at x) i)
  place_bit p q (in_high a b e) =
      let i : q / 8 ≡ n - 2 + 0 = omega arith in
      let j : c + 1 ≡ p / 8 = omega arith in
      same_bit p q (omega arith) (ap (byte_at (codeword k x)) i ∙ field_byte 0 (omega arith) ∙ ap (byte_at x) j)
  place_bit p q (in_low a b e) =
      let i : q / 8 ≡ n - 2 + 1 = omega arith in
      let j : c ≡ p / 8 = omega arith in
      same_bit p q (omega arith) (ap (byte_at (codeword k x)) i ∙ field_byte 1 (omega arith) ∙ ap (byte_at x) j)

  -- its check
  pub code_zero : crc_over 0 (codeword k x) ≡ 0
  unfolding check le16 codeword
  code_zero =
      crc_append 0 (take c x) (drop h x ++ field)
      ∙ crc_append (crc_over 0 (take c x)) (drop h x) field
      ∙ ap (λ (r : ℕ). crc_over r field) (sym w.right)
      ∙ own_bytes (byte_at x (c + 1)) (byte_at x c) (byte_lt (c + 1)) (byte_lt c)
