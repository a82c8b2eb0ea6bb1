-- A burst of altered bits is caught.
use Rattle.std.specs.Prelude.{ℕ, ◌+◌, ◌-◌, ◌*◌, ◌/◌, ◌≤◌, ◌<◌, ◌≡◌, ◌⊎◌, true, take}
use Rattle.std.proofs.Common.{sym, ap, ◌∙◌, inl, inr}
use native.Mathlib.Omega.{arith}
use Rattle.std.proofs.Math.Decide.{dec_lt, ℕ_discrete}
use Rattle.format.specs.Bytes.{Bytes, byte_at, le16}
use Rattle.format.specs.Record.{Kind, declared_size, acceptable, record_size}
use Rattle.format_laws.specs.Crc.{Octets}
use Rattle.format_laws.specs.Octets.{octet_at}
use Rattle.format_laws.specs.Record.{inode_reserved_lem}
use Rattle.bursts.specs.Words.{bit_at, Altered, Burst, Part, covered_header, check_field, body, Wholly, IsKind, is_inode, is_block, Damaged}
use Rattle.bursts.specs.Bits.{take_bit, crc_burst}
use Rattle.bursts.specs.Codeword.{Place, in_header, in_body, in_high, in_low, place_of, placed_at, codeword, Checked, code_long, code_bytes, place_bit, code_zero}
use Rattle.bursts.proofs.Accepted.{before, after}
use Rattle.bursts.specs.Magics.{Turned}
use Rattle.bursts.proofs.Magics.{lawful, turned, neither}

-- a bit that is not altered
unaltered : (n : ℕ) (t s : Bytes) (p : ℕ) → p < n * 8 → (Altered n t s p → ⊥) → bit_at t p ≡ bit_at s p
unaltered n t s p h f = go (ℕ_discrete (bit_at s p) (bit_at t p))
  where
    go : Dec (bit_at s p ≡ bit_at t p) → bit_at t p ≡ bit_at s p
    go (yes e) = sym e
    go (no e) = absurd (f (h, e))

-- two codewords are no burst apart
apart : {k : Kind} {n : ℕ} {x y : Bytes} → Checked k n x → Checked k n y → Burst n (codeword k x) (codeword k y) → ⊥
apart {k} {n} {x} {y} a b u =
    let long = code_long a in
    let same = crc_burst 0 (codeword k x) (codeword k y) (omega arith) (code_bytes a) (code_bytes b) (long ∙ sym (code_long b)) u.start
    (λ p h w. outside p (omega arith) w) (code_zero a ∙ sym (code_zero b)) in
    u.one_altered.1 (ap (λ (z : Bytes). bit_at z u.one) (sym same))
  where
    outside : (p : ℕ) → p < n * 8 → (p < u.start) ⊎ (u.start + 16 ≤ p) → bit_at (codeword k x) p ≡ bit_at (codeword k y) p
    outside p h (inl w) = unaltered n (codeword k x) (codeword k y) p h (λ d. omega (arith, (u.span p d).0))
    outside p h (inr w) = unaltered n (codeword k x) (codeword k y) p h (λ d. omega (arith, (u.span p d).1))

-- where in the codeword a burst starts
start_in : (n start : ℕ) {k : Kind} {from to : ℕ} → Part k n from to → ℕ
start_in n start covered_header = start
start_in n start check_field = n * 8 - 16
start_in n start body = start - 16

-- a burst wholly in one part of a record is one of its codeword
module _ {k : Kind} {n : ℕ} (t s : Bytes) (a : Checked k n (take n t)) (b : Checked k n (take n s)) where
  abbrev x : Bytes
  x = codeword k (take n t)

  abbrev y : Bytes
  y = codeword k (take n s)

  -- its bits, before and after
  bit_before : (p q : ℕ) → p < n * 8 → Place k.check_offset n p q → bit_at x q ≡ bit_at t p
  bit_before p q h l = place_bit a p q l ∙ take_bit n t p h

  bit_after : (p q : ℕ) → p < n * 8 → Place k.check_offset n p q → bit_at y q ≡ bit_at s p
  bit_after p q h l = place_bit b p q l ∙ take_bit n s p h

  kept_span : (start p q : ℕ) {from to : ℕ} (part : Part k n from to) → Place k.check_offset n p q
      → (start ≤ p) × (p < start + 16) → (from * 8 ≤ p) × (p < to * 8) → (start_in n start part ≤ q) × (q < start_in n start part + 16)
  unfolding start_in
  kept_span start p q covered_header (in_header l e) u w = (omega arith, omega arith)
  kept_span start p q covered_header (in_body l m e) u w = absurd (omega arith)
  kept_span start p q covered_header (in_high l m e) u w = absurd (omega arith)
  kept_span start p q covered_header (in_low l m e) u w = absurd (omega arith)
  kept_span start p q check_field (in_header l e) u w = absurd (omega arith)
  kept_span start p q check_field (in_body l m e) u w = absurd (omega (arith, a.last))
  kept_span start p q check_field (in_high l m e) u w = (omega (arith, a.last, a.room), omega (arith, a.last, a.room))
  kept_span start p q check_field (in_low l m e) u w = (omega (arith, a.last, a.room), omega (arith, a.last, a.room))
  kept_span start p q body (in_header l e) u w = absurd (omega (arith, a.last))
  kept_span start p q body (in_body l m e) u w = (omega arith, omega arith)
  kept_span start p q body (in_high l m e) u w = absurd (omega (arith, a.last))
  kept_span start p q body (in_low l m e) u w = absurd (omega (arith, a.last))

  moved : Burst n t s → Wholly k n t s → Burst n x y
  moved u w =
      let r : k.check_offset + 2 ≤ n = omega (arith, a.last, a.room) in
      let h = u.one_altered.0 in
      let o = place_of k.check_offset n u.one r h in
      record {
        one = o.0;
        one_altered = (omega (arith, o.1), λ e. u.one_altered.1 (sym (bit_after u.one o.0 h o.2) ∙ e ∙ bit_before u.one o.0 h o.2));
        start = start_in n u.start w.part;
        span = λ q d.
            let l = placed_at k.check_offset n q r d.0 in
            let f : Altered n t s l.0 = (omega (arith, l.1), λ e. d.1 (bit_after l.0 q l.1 l.2 ∙ e ∙ sym (bit_before l.0 q l.1 l.2))) in
            kept_span u.start l.0 q w.part l.2 (u.span l.0 f) (w.inside l.0 f);
      }

-- the magics differ in two bits that no 16 in a row both have
not_turned : {k : Kind} {t s : Bytes} → Damaged k t s → Burst (declared_size k t) t s → Turned t s → ⊥
not_turned d u m =
    let h = (lawful d.kind).magic_inside in
    omega (arith, (u.span 1 (omega arith, m.second)).0, (u.span 31 (omega arith, m.last)).1)

-- if s were acceptable still, of the kind that it was
while_accepted : (k : Kind) (t s : Bytes) → Damaged k t s → Burst (declared_size k t) t s
    → (acceptable k s ≡ true → Wholly k (declared_size k t) t s) → record_size s ≡ 0
while_accepted k t s d u w =
    neither d.kind s (λ c. apart (before d) (after d c) (moved t s (before d) (after d c) u (w c))) (λ c. not_turned d u (turned d c))

pub burst_caught : (k : Kind) (t s : Bytes) → Damaged k t s → Burst (declared_size k t) t s → Wholly k (declared_size k t) t s → record_size s ≡ 0
burst_caught k t s d u w = while_accepted k t s d u (λ c. w)

-- ---- a burst in the header, the check field with it

-- the two bytes in front of the check field: an inode's reserved byte and its length field, or a block's length field
kept_in_front : {k : Kind} (i : IsKind k) (t s : Bytes) → Octets t → Octets s → acceptable k t ≡ true → acceptable k s ≡ true
    → k.body_length s ≡ k.body_length t → (j : ℕ) → k.check_offset ≤ j + 2 → j < k.check_offset → byte_at s j ≡ byte_at t j
unfolding le16
kept_in_front is_inode t s o o' a c e j h g = go (ℕ_discrete j 16)
  where
    go : Dec (j ≡ 16) → byte_at s j ≡ byte_at t j
    go (yes z) = rw z (inode_reserved_lem s c ∙ sym (inode_reserved_lem t a))
    go (no z) = let y : j ≡ 17 = omega arith in rw y e
kept_in_front is_block t s o o' a c e j h g = go (ℕ_discrete j 20)
  where
    go : Dec (j ≡ 20) → byte_at s j ≡ byte_at t j
    go (yes z) = rw z (omega (arith, octet_at t o 20, octet_at s o' 20, octet_at t o 21, octet_at s o' 21))
    go (no z) = let y : j ≡ 21 = omega arith in rw y (omega (arith, octet_at t o 20, octet_at s o' 20, octet_at t o 21, octet_at s o' 21))

-- so that the burst lies wholly on one side of them
one_side : (k : Kind) (t s : Bytes) → Damaged k t s → (u : Burst (declared_size k t) t s) → ((p : ℕ) → Altered (declared_size k t) t s p → p < k.header_size * 8)
    → acceptable k s ≡ true → Wholly k (declared_size k t) t s
unfolding bit_at
one_side k t s d u h c = go (dec_lt u.one (k.check_offset * 8))
  where
    beside : (p : ℕ) → Altered (declared_size k t) t s p → k.check_offset * 8 ≤ p + 16 → p < k.check_offset * 8 → ⊥
    beside p q l m = q.1 (rw (kept_in_front d.kind t s d.bytes_before_lem d.bytes_after d.accepted c d.same_length (p / 8) (omega arith) (omega arith)))

    go : Dec (u.one < k.check_offset * 8) → Wholly k (declared_size k t) t s
    go (yes l) = record {
      from = 0;
      to = k.check_offset;
      part = covered_header;
      inside = λ p q. (omega arith, front p q (dec_lt p (k.check_offset * 8)));
    }
      where
        front : (p : ℕ) → Altered (declared_size k t) t s p → Dec (p < k.check_offset * 8) → p < k.check_offset * 8
        front p q (yes m) = m
        front p q (no m) = absurd (beside u.one u.one_altered (omega (arith, (u.span p q).1, (u.span u.one u.one_altered).0)) l)
    go (no l) = record {
      from = k.check_offset;
      to = k.header_size;
      part = check_field;
      inside = λ p q. (field p q (dec_lt p (k.check_offset * 8)), h p q);
    }
      where
        field : (p : ℕ) → Altered (declared_size k t) t s p → Dec (p < k.check_offset * 8) → k.check_offset * 8 ≤ p
        field p q (yes m) = absurd (beside p q (omega (arith, (u.span p q).0, (u.span u.one u.one_altered).1)) m)
        field p q (no m) = omega arith

pub header_caught : (k : Kind) (t s : Bytes) → Damaged k t s → Burst (declared_size k t) t s
    → ((p : ℕ) → Altered (declared_size k t) t s p → p < k.header_size * 8) → record_size s ≡ 0
header_caught k t s d u h = while_accepted k t s d u (one_side k t s d u h)
