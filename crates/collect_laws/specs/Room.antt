-- Copies written back to back fit where their source fitted.
use Rattle.std.specs.Prelude.{ℕ, ◌+◌, ◌≤◌, Bool, true, false, cond, not, ◌&&◌, drop}
use mathlib.Core.List.{List, [], ◌∷◌, ◌++◌}
use Rattle.std.proofs.Math.Path.{ap}
use native.Mathlib.Omega.{arith}
use Rattle.std.proofs.Math.ListN.{length, length-append}
use Rattle.format.specs.Bytes.{Bytes}
use Rattle.format.specs.AreaHeader.{area_header_size}
use Rattle.format.specs.Record.{record_size}
use Rattle.format.specs.Reading.{Acceptor, Part, taken, stretch, parts, placed, area_parts, area_records}
use Rattle.format_laws.specs.Reading.{Lawful, joined, parts_joined, records_lawful}
use Rattle.volume.specs.Lists.{keep, same}
use Rattle.volume.specs.Counting.{Volume}
use Rattle.calls.specs.Mount.{bytes_of}
use Rattle.calls.specs.Collect.{counts, drops, first_places, copies}
use Rattle.image_laws.specs.Stores.{joined_bytes}

module _ (size : Acceptor) (ok : Lawful size) where
  -- what is taken is no longer than what it is taken from
  placed_room : (p : ℕ) (l : List Part) → length (joined_bytes (bytes_of (placed p l))) ≤ length (joined l)
  unfolding placed joined joined_bytes
  placed_room p [] = omega arith
  placed_room p (taken r ∷ l) =
      let h = placed_room (p + length r) l in
      omega (arith, length-append r (joined_bytes (bytes_of (placed (p + length r) l))), length-append r (joined l))
  placed_room p (stretch s ∷ l) = let h = placed_room (p + length s) l in omega (arith, length-append s (joined l))

  taken_room : (area : Bytes) → length (joined_bytes (bytes_of (area_records size area))) ≤ length (drop area_header_size area)
  unfolding area_records area_parts
  taken_room area =
      omega (
        arith,
        placed_room area_header_size (parts size (drop area_header_size area) 0),
        ap length (parts_joined size ok.inside (drop area_header_size area) 0 (omega arith)),
      )

-- ---- a part of some records is no longer than they are

keep_room : (f : Bytes → Bool) (cs : List Bytes) → length (joined_bytes (keep f cs)) ≤ length (joined_bytes cs)
unfolding keep joined_bytes
keep_room f [] = omega arith
keep_room f (c ∷ cs) = go (f c) (keep_room f cs)
  where
    go : (b : Bool) → length (joined_bytes (keep f cs)) ≤ length (joined_bytes cs)
        → length (joined_bytes (cond b (c ∷ keep f cs) (keep f cs))) ≤ length (c ++ joined_bytes cs)
    go true h = omega (arith, length-append c (joined_bytes (keep f cs)), length-append c (joined_bytes cs))
    go false h = omega (arith, length-append c (joined_bytes cs))

first_room : (cs : List Bytes) → length (joined_bytes (first_places cs)) ≤ length (joined_bytes cs)
unfolding first_places joined_bytes
first_room [] = omega arith
first_room (c ∷ cs) =
    let h = first_room cs in
    let k = keep_room (λ d. not (same c d)) (first_places cs) in
    omega (arith, length-append c (joined_bytes (keep (λ d. not (same c d)) (first_places cs))), length-append c (joined_bytes cs))

pub copies_fit : (v : Volume Bytes) (area : Bytes) (elsewhere : List Bytes)
    → length (joined_bytes (copies v (bytes_of (area_records record_size area)) elsewhere)) ≤ length (drop area_header_size area)
unfolding copies
copies_fit v area elsewhere =
    let rs = bytes_of (area_records record_size area) in
    omega (
      arith,
      taken_room record_size records_lawful area,
      first_room rs,
      keep_room (λ b. counts v b && not (drops v rs elsewhere b)) (first_places rs),
    )
