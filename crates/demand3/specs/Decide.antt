-- The hypotheses of demand 3 as tests that compute.
use Rattle.std.specs.Prelude.{ℕ, zero, suc, ◌+◌, Bool, ◌&&◌, ◌||◌, drop, leb, ltb}
use Rattle.std.proofs.Math.Bool.{not}
use mathlib.Core.List.{List, [], ◌∷◌}
use Rattle.std.proofs.Math.ListN.{length}
use Rattle.std.proofs.Math.Dec.{eqb}
use Rattle.format.specs.Bytes.{Bytes, byte_at}
use Rattle.format.specs.Ids.{is_file_id}
use Rattle.format.specs.Record.{record_id, record_size}
use Rattle.format.specs.Reading.{Placed, area_clean}
use Rattle.volume.specs.Lists.{all}
use Rattle.volume.specs.View.{by_bytes}
use Rattle.volume.specs.Fate.{is_live, fate_of, lineage}
use Rattle.calls.specs.Areas.{area_bytes, file_areas}
use Rattle.calls.specs.Mount.{records_of, volume, mount_number}
use Rattle.calls.specs.declared.Descriptor.{Descriptor}
use Rattle.demand3.specs.Words.{touched}

-- the numbers below n
unfoldable pub below : ℕ → List ℕ
below zero = []
below (suc n) = n ∷ below n

-- the byte at i is one of the record's
unfoldable pub is_inside : Descriptor → Placed → ℕ → Bool
is_inside d r i = leb (d.offset + r.place) i && ltb i (d.offset + r.place + length r.bytes)

-- it is in none of the records of the file areas
unfoldable pub outside : Bytes → List Descriptor → ℕ → Bool
outside xs ds i = all (λ d. all (λ r. not (is_inside d r i)) (records_of xs d)) (file_areas xs ds)

unfoldable pub only_inside : Bytes → Bytes → List Descriptor → Bool
only_inside xs ys ds = all (λ i. eqb (byte_at xs i) (byte_at ys i) || not (outside xs ds i)) (below (length xs))

unfoldable pub all_clean : Bytes → List Descriptor → Bool
all_clean xs ds = all (λ d. area_clean record_size (area_bytes xs d)) (file_areas xs ds)

-- nothing acceptable starts at the bytes of a record
unfoldable pub emptied : Bytes → Placed → Bool
emptied area r = all (λ k. eqb (record_size (drop (r.place + k) area)) 0) (below (length r.bytes))

unfoldable pub none_new : Bytes → Bytes → List Descriptor → Bool
none_new xs ys ds = all (λ d. all (λ r. not (touched xs ys d r) || emptied (area_bytes ys d) r) (records_of xs d)) (file_areas xs ds)

unfoldable pub is_damage : Bytes → Bytes → List Descriptor → Bool
is_damage xs ys ds =
    eqb (length ys) (length xs) && (eqb (mount_number xs ds) 0 && (all_clean xs ds && (only_inside xs ys ds && none_new xs ys ds)))

unfoldable pub is_spared : Bytes → Bytes → List Descriptor → ℕ → Bool
is_spared xs ys ds i = all (λ d. all (λ r. not (eqb (record_id r.bytes) i) || not (touched xs ys d r)) (records_of xs d)) (file_areas xs ds)

unfoldable pub is_unharmed : Bytes → Bytes → List Descriptor → ℕ → Bool
is_unharmed xs ys ds f =
    is_file_id f && (is_live (fate_of by_bytes (volume xs ds) f)
    && (all (is_spared xs ys ds) (lineage by_bytes (volume xs ds) f)
    && all (λ b. not (eqb (by_bytes.owner b) f) || is_spared xs ys ds (record_id b)) (volume xs ds).blocks))
