-- What survives a collection leaves out only what was dead and nothing can bring back.
use Rattle.std.specs.Prelude.{◌⊎◌}
use mathlib.Core.List.{List, Memᴰ}
use Rattle.format.specs.Bytes.{Bytes}

-- ---- what is not copied

-- rs are the source's records and those elsewhere, ss the copies bs and those elsewhere, in any order
pub record Moved (rs ss source elsewhere bs : List Bytes) : Type 0 where
  pub was : (b : Bytes) → Memᴰ b rs → Memᴰ b source ⊎ Memᴰ b elsewhere
  pub source_was : (b : Bytes) → Memᴰ b source → Memᴰ b rs
  pub others_were : (b : Bytes) → Memᴰ b elsewhere → Memᴰ b rs
  pub is : (b : Bytes) → Memᴰ b ss → Memᴰ b bs ⊎ Memᴰ b elsewhere
  pub copies_are : (b : Bytes) → Memᴰ b bs → Memᴰ b ss
  pub others_are : (b : Bytes) → Memᴰ b elsewhere → Memᴰ b ss
