-- A record starts with the four bytes of its kind's magic.
use Rattle.std.specs.Prelude.{ℕ, zero, suc, ◌<◌, ◌≡◌, ◌⊎◌, ◌≢◌, []}
use Rattle.std.proofs.Common.{inl, inr, arith}
use Rattle.format.specs.Bytes.{Bytes, byte_at, le32, enc32}
use Rattle.format.specs.Record.{inode, block, record_size}
use Rattle.format_laws.specs.Crc.{Octets}
use Rattle.format_laws.specs.Octets.{octet_at}
use Rattle.format_laws.specs.Record.{inode_lawful, block_lawful, kind_magic, Stands, stands, an_inode, a_block, nothing}

-- the first four bytes of t are those of the number m
pub record StartsWith (t : Bytes) (m : ℕ) : Type 0 where
  pub byte : (i : ℕ) → i < 4 → byte_at t i ≡ byte_at (enc32 m []) i

pub starts_with : (t : Bytes) → Octets t → (m : ℕ) → le32 t 0 ≡ m → StartsWith t m
unfolding le32
starts_with t o m e = record { byte = go }
  where
    a : byte_at t 0 < 256
    a = octet_at t o 0

    b : byte_at t 1 < 256
    b = octet_at t o 1

    c : byte_at t 2 < 256
    c = octet_at t o 2

    d : byte_at t 3 < 256
    d = octet_at t o 3

    go : (i : ℕ) → i < 4 → byte_at t i ≡ byte_at (enc32 m []) i
    go zero h = omega (arith, a, b, c, d, e)
    go (suc zero) h = omega (arith, a, b, c, d, e)
    go (suc (suc zero)) h = omega (arith, a, b, c, d, e)
    go (suc (suc (suc zero))) h = omega (arith, a, b, c, d, e)
    go (suc (suc (suc (suc i)))) h = absurd (omega arith)

-- the record at the front of t
pub record_magic : (t : Bytes) → Octets t → record_size t ≢ 0 → StartsWith t inode.magic ⊎ StartsWith t block.magic
record_magic t o h = go (stands t)
  where
    go : Stands t → StartsWith t inode.magic ⊎ StartsWith t block.magic
    go (an_inode a e) = inl (starts_with t o inode.magic (kind_magic inode inode_lawful t a))
    go (a_block b e) = inr (starts_with t o block.magic (kind_magic block block_lawful t b))
    go (nothing e) = absurd (h e)
