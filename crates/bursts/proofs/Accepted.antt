-- What an acceptable record is to the check.
use Rattle.std.specs.Prelude.{ℕ, ◌+◌, ◌≤◌, ◌≡◌, refl, true, ◌&&◌, ltb, leb, take}
use Rattle.std.proofs.Common.{ap, arith, length-take-le, leb-true}
use Rattle.format.specs.Bytes.{Bytes}
use Rattle.format.specs.Ids.{is_block_id, is_file_id}
use Rattle.format.specs.Record.{Kind, block, record_id, record_link, block_previous, data_length, previous_rule, block_rule, block_rules, longest_data}
use Rattle.format.specs.Record.{declared_size, acceptable}
use Rattle.format_laws.specs.Bytes.{take_le16}
use Rattle.format_laws.specs.Crc.{Octets}
use Rattle.format_laws.specs.Octets.{octet_at, octets_take}
use Rattle.format_laws.specs.Record.{and_right, kind_inside, kind_formed, formed_rules, formed_check}
use Rattle.bursts.specs.Words.{IsKind, is_inode, is_block, Damaged}
use Rattle.bursts.specs.Codeword.{Checked}

-- the check field is the last two bytes of the header
field_last : {k : Kind} → IsKind k → k.header_size ≡ k.check_offset + 2
field_last is_inode = refl
field_last is_block = refl

data_short : (b : Bytes) → block_rules b ≡ true → data_length b ≤ longest_data
unfolding block_rules block_rule
data_short b r =
    leb-true _ _ (and_right (ltb 0 (data_length b)) (leb (data_length b) longest_data)
    (and_right (is_block_id (record_id b) && is_file_id (record_link b) && previous_rule (record_id b) (block_previous b)) (ltb 0 (data_length b) && leb (data_length b) longest_data) r))

-- no record has more than 24 + 2,048 bytes
record_short : {k : Kind} → IsKind k → (t : Bytes) → Octets t → acceptable k t ≡ true → declared_size k t ≤ 2072
record_short is_inode t o a = omega (arith, octet_at t o 17)
record_short is_block t o a =
    let n = declared_size block t in
    let e = take_le16 n t 20 (omega arith) in
    omega (arith, data_short (take n t) (formed_rules block (take n t) (kind_formed block t a)))

checked : (k : Kind) → IsKind k → (t : Bytes) → Octets t → acceptable k t ≡ true → (n : ℕ) → declared_size k t ≡ n → Checked k n (take n t)
checked k i t o a n e =
    record {
      last = field_last i;
      room = omega arith;
      short = rw e at (record_short i t o a);
      long = length-take-le n t (rw e at (kind_inside k t a));
      bytes = octets_take n t o;
      right = formed_check k (take n t) (rw e at (kind_formed k t a));
    }

-- a damaged record, before and, if it were acceptable still, after
pub before : {k : Kind} {t s : Bytes} → Damaged k t s → Checked k (declared_size k t) (take (declared_size k t) t)
before {k} {t} {s} d = checked k d.kind t d.bytes_before_lem d.accepted (declared_size k t) refl

pub after : {k : Kind} {t s : Bytes} → Damaged k t s → acceptable k s ≡ true → Checked k (declared_size k t) (take (declared_size k t) s)
after {k} {t} {s} d a = checked k d.kind s d.bytes_after a (declared_size k t) (ap (λ (m : ℕ). k.header_size + m) d.same_length)
