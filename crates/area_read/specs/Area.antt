-- The next record of an area.
use Rattle.std.specs.Prelude.{ℕ, zero, suc, ◌≤◌, ◌<◌, ◌≡◌, [], ◌∷◌, length, drop, Option, Some, None}
use Rattle.format.specs.Bytes.{Bytes, byte_at}
use Rattle.format.specs.Record.{record_size}
use Rattle.format.specs.Reading.{ERASED}
use Rattle.area_read.specs.declared.Next.{Next}

-- the first record among the bytes t, which start at the place p, if any
unfoldable pub search : Bytes → ℕ → Option Next
search [] p = None
search (b ∷ t) p = elim (record_size (b ∷ t)) [ zero ↦ search t (suc p) | suc n ↦ Some (record { at = p; size = suc n }) ]

unfoldable pub next_record : Bytes → ℕ → Option Next
next_record area from = search (drop from area) from

-- what is written of an area ends at a place: from there on all bytes are erased
pub record WrittenTo (area : Bytes) (from written : ℕ) : Type 0 where
  pub within : from ≤ length area
  pub inside : written ≤ length area
  pub erased : (j : ℕ) → written ≤ j → j < length area → byte_at area j ≡ ERASED
