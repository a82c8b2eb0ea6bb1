-- The pieces that append cuts its data into: joined they are the data, and each is as long as a block may be.
use Prim.Native.Nat.{ℕ, ◌≤◌, ◌<◌}
use Rattle.std.proofs.Math.Path.{◌≡◌}
use mathlib.Core.List.{List, [], ◌∷◌}
use Rattle.std.proofs.Math.ListN.{length}
use Rattle.format.specs.Bytes.{Bytes}
use Rattle.format.specs.Record.{longest_data}
use Rattle.format_laws.specs.Crc.{Octets}

-- a piece that a block can hold
pub record GoodPiece (p : Bytes) : Type 0 where
  pub some_bytes : 0 < length p
  pub fits : length p ≤ longest_data
  pub octets : Octets p

-- "pieces of the greatest block size, the last one shorter": each but the last has n bytes, the last 1 to n
pub data Sized (n : ℕ) : List Bytes → Type 0 where
  no_piece : Sized n []
  last_piece : {p : Bytes} → 0 < length p → length p ≤ n → Sized n (p ∷ [])
  full_piece : {p q : Bytes} {ps : List Bytes} → length p ≡ n → Sized n (q ∷ ps) → Sized n (p ∷ q ∷ ps)
