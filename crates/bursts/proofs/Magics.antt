-- The magics of the two kinds of records: what it takes to turn one into the other.
use Rattle.std.specs.Prelude.{ℕ, zero, suc, ◌+◌, ◌/◌, ◌<◌, ◌≡◌, refl, Bool, true, false, cond, [], eqb}
use Rattle.std.proofs.Common.{sym, ap₂, ◌∙◌, arith}
use Rattle.format.specs.Bytes.{Bytes, byte_at, le32, enc32}
use Rattle.format.specs.Record.{Kind, inode, block, acceptable, record_size}
use Rattle.format_laws.specs.Crc.{Octets}
use Rattle.format_laws.specs.Octets.{octet_at}
use Rattle.format_laws.specs.Record.{LawfulKind, inode_lawful, block_lawful, kind_magic, size_none}
use Rattle.bursts.specs.Words.{bit_at, altered_bits, IsKind, is_inode, is_block, Damaged}
use Rattle.bursts.specs.Magics.{Turned}

pub other_kind : {k : Kind} → IsKind k → Kind
other_kind is_inode = block
other_kind is_block = inode

is_other_lem : {k : Kind} (i : IsKind k) → IsKind (other_kind i)
unfolding other_kind
is_other_lem is_inode = is_block
is_other_lem is_block = is_inode

pub lawful : {k : Kind} → IsKind k → LawfulKind k
lawful is_inode = inode_lawful
lawful is_block = block_lawful

abbrev magic_bytes : Kind → Bytes
magic_bytes k = enc32 k.magic []

magics : {k : Kind} (i : IsKind k) → Turned (magic_bytes k) (magic_bytes (other_kind i))
unfolding other_kind bit_at altered_bits
magics is_inode = record { second = λ e. omega arith; last = λ e. omega arith; sixteen = refl }
magics is_block = record { second = λ e. omega arith; last = λ e. omega arith; sixteen = refl }

-- only the first 32 bits matter
altered_alike : (m : ℕ) (t s v w : Bytes) → ((p : ℕ) → p < m → bit_at t p ≡ bit_at v p) → ((p : ℕ) → p < m → bit_at s p ≡ bit_at w p)
    → altered_bits m t s ≡ altered_bits m v w
unfolding altered_bits
altered_alike zero t s v w e f = refl
altered_alike (suc m) t s v w e f =
    ap₂ ◌+◌ (altered_alike m t s v w (λ p h. e p (omega arith)) (λ p h. f p (omega arith)))
    (ap₂ (λ (x y : ℕ). cond (eqb x y) 0 1) (e m (omega arith)) (f m (omega arith)))

alike_turned : (t s v w : Bytes) → ((p : ℕ) → p < 32 → bit_at t p ≡ bit_at v p) → ((p : ℕ) → p < 32 → bit_at s p ≡ bit_at w p) → Turned v w → Turned t s
alike_turned t s v w e f r = record {
  second = λ q. r.second (sym (f 1 (omega arith)) ∙ q ∙ e 1 (omega arith));
  last = λ q. r.last (sym (f 31 (omega arith)) ∙ q ∙ e 31 (omega arith));
  sixteen = altered_alike 32 t s v w e f ∙ r.sixteen;
}

magic_byte : (t : Bytes) (m : ℕ) → Octets t → le32 t 0 ≡ m → (i : ℕ) → i < 4 → byte_at t i ≡ byte_at (enc32 m []) i
unfolding le32
magic_byte t m o e zero h = omega (arith, octet_at t o 0, octet_at t o 1, octet_at t o 2, octet_at t o 3)
magic_byte t m o e (suc zero) h = omega (arith, octet_at t o 0, octet_at t o 1, octet_at t o 2, octet_at t o 3)
magic_byte t m o e (suc (suc zero)) h = omega (arith, octet_at t o 0, octet_at t o 1, octet_at t o 2, octet_at t o 3)
magic_byte t m o e (suc (suc (suc zero))) h = omega (arith, octet_at t o 0, octet_at t o 1, octet_at t o 2, octet_at t o 3)
magic_byte t m o e (suc (suc (suc (suc i)))) h = absurd (omega arith)

magic_bit : (t : Bytes) (m : ℕ) → Octets t → le32 t 0 ≡ m → (p : ℕ) → p < 32 → bit_at t p ≡ bit_at (enc32 m []) p
unfolding bit_at
magic_bit t m o e p h = rw (magic_byte t m o e (p / 8) (omega arith))

pub turned : {k : Kind} {t s : Bytes} (d : Damaged k t s) → acceptable (other_kind d.kind) s ≡ true → Turned t s
turned {k} {t} {s} d a =
    let i = d.kind in
    alike_turned t s (magic_bytes k) (magic_bytes (other_kind i))
    (magic_bit t k.magic d.bytes_before_lem (kind_magic k (lawful i) t d.accepted))
    (magic_bit s (other_kind i).magic d.bytes_after (kind_magic (other_kind i) (lawful (is_other_lem i)) s a))
    (magics i)

-- not acceptable
pub refused : (k : Kind) (s : Bytes) → (acceptable k s ≡ true → ⊥) → acceptable k s ≡ false
refused k s f = go (acceptable k s) refl
  where
    go : (b : Bool) → acceptable k s ≡ b → acceptable k s ≡ false
    go true e = absurd (f e)
    go false e = e

pub neither : {k : Kind} (i : IsKind k) (s : Bytes) → (acceptable k s ≡ true → ⊥) → (acceptable (other_kind i) s ≡ true → ⊥) → record_size s ≡ 0
unfolding other_kind
neither is_inode s f g = size_none s (refused inode s f) (refused block s g)
neither is_block s f g = size_none s (refused inode s g) (refused block s f)
