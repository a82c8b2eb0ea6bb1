-- T-11 with demand 3: "Demand 3 assumes that no acceptable record starts in an overwritten one. For the record's own start, give us that
-- without assuming it".
use Rattle.std.specs.Prelude.{ℕ, ◌≡◌, ◌≢◌, true, length, drop}
use mathlib.Core.List.{List, Memᴰ}
use Rattle.format.specs.Bytes.{Bytes, byte_at}
use Rattle.format.specs.Record.{Kind, declared_size, acceptable, record_size}
use Rattle.format.specs.Reading.{Placed, area_clean}
use Rattle.format_laws.specs.Crc.{Octets}
use Rattle.calls.specs.Areas.{area_bytes, file_areas}
use Rattle.calls.specs.Mount.{mount_number}
use Rattle.calls.specs.declared.Descriptor.{Descriptor}
use Rattle.bursts.specs.Words.{IsKind, Sure}
use Rattle.demand3.specs.Words.{IsRecord, Within, InRecord, touched}

-- the rest of an area, from a record's place on
abbrev pub rest_at : Bytes → Descriptor → Placed → Bytes
rest_at image d r = drop r.place (area_bytes image d)

-- the damage to the record of the kind k at the front of t is surely caught
pub record SurelyCaught (k : Kind) (t s : Bytes) : Type 0 where
  pub same_length : k.body_length s ≡ k.body_length t
  pub sure : Sure k (declared_size k t) t s

-- every overwritten record, of whichever kind it is, was damaged so: by one burst, or in one to three bits
abbrev pub AllSure : Bytes → Bytes → List Descriptor → Type 0
AllSure xs ys ds =
    (d : Descriptor) (r : Placed) → IsRecord xs ds d r → touched xs ys d r ≡ true
    → (k : Kind) → IsKind k → acceptable k (rest_at xs d r) ≡ true → SurelyCaught k (rest_at xs d r) (rest_at ys d r)

-- what is left to be assumed: "No acceptable record starts at any of its bytes afterwards", its first apart
abbrev pub NoneBehind : Bytes → Bytes → List Descriptor → Type 0
NoneBehind xs ys ds =
    (d : Descriptor) (r : Placed) → IsRecord xs ds d r → touched xs ys d r ≡ true
    → (j : ℕ) → Within r j → j ≢ r.place → record_size (drop j (area_bytes ys d)) ≡ 0

-- What is given, of images of bytes: as demand 3 has it (`Damage`), but that no acceptable record starts at an overwritten one's first byte
pub record SureDamage (xs ys : Bytes) (ds : List Descriptor) : Type 0 where
  pub bytes_before_lem : Octets xs
  pub bytes_after : Octets ys
  pub one_length : length ys ≡ length xs
  pub mounts : mount_number xs ds ≡ 0
  pub clean : (d : Descriptor) → Memᴰ d (file_areas xs ds) → area_clean record_size (area_bytes xs d) ≡ true
  pub inside : (i : ℕ) → byte_at xs i ≢ byte_at ys i → InRecord xs ds i
  pub all_sure : AllSure xs ys ds
  pub none_behind : NoneBehind xs ys ds
