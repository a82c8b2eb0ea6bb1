-- Whether the records at some places can be stored into an area, as the code asks before the first store.
use Prim.Native.Nat.{ℕ, zero, suc, ◌+◌, ◌≤◌, ◌<◌}
use Rattle.std.specs.Prelude.{◌≡◌, Bool, true, false, ◌&&◌, drop, get_or}
use Rattle.std.proofs.Math.Path.{refl}
use Rattle.std.proofs.Common.{ap, ◌∙◌, inl, inr, length-append, drop_of_length-le}
use mathlib.Core.List.{List, [], ◌∷◌, map}
use native.Mathlib.Omega.{arith}
use Rattle.std.proofs.Math.ListN.{length}
use Rattle.std.proofs.Math.Dec.{leb}
use borrow.Author.Tests.{le-leb, lt-leb, leb-true}
use Rattle.format.specs.Bytes.{Bytes}
use Rattle.format.specs.AreaHeader.{area_header_size}
use Rattle.format_laws.specs.Record.{and_left, and_right}
use Rattle.volume_laws.specs.Tests.{true→T}
use Rattle.volume_laws.specs.Steps.{drop_step}
use Rattle.calls.specs.Areas.{area_end, disjoint}
use Rattle.calls.specs.declared.Descriptor.{Descriptor}
use Rattle.record_places.specs.Place.{size_at, bytes_at, AllLie}
use Rattle.area_list.specs.Described.{area_of}
use Rattle.area_list.specs.Places.{Clear, disjoint_clear, clear_disjoint}
use Rattle.image_laws.specs.Apart.{Apart, apart_before, apart_after}
use Rattle.image_laws.specs.Stores.{joined_bytes}
use Rattle.record_places.specs.Stays.{bytes_long}
use Rattle.collect_stores.specs.Records.{moved}
use Rattle.collect_stores.specs.Filled.{Fillable}

-- the bytes of the record at a place
abbrev pub span : Bytes → ℕ → Descriptor
span x p = area_of p (size_at x p)

-- stored one behind the other from `at` on the records end in the area d, and none of them has a byte in it
unfoldable pub fit_from : Bytes → Descriptor → ℕ → List ℕ → Bool
fit_from x d at [] = true
fit_from x d at (p ∷ ps) = leb (at + size_at x p) d.length && disjoint (span x p) d && fit_from x d (at + size_at x p) ps

-- so stored behind the area's header
abbrev pub fits : Bytes → Descriptor → List ℕ → Bool
fits x d ps = fit_from x d area_header_size ps

moved_one : (x : Bytes) (p : ℕ) (ps : List ℕ) → p + size_at x p ≤ length x → length (moved x (p ∷ ps)) ≡ size_at x p + length (moved x ps)
unfolding moved joined_bytes
moved_one x p ps h = length-append (bytes_at x p) (joined_bytes (map (bytes_at x) ps)) ∙ ap (λ n. n + length (joined_bytes (map (bytes_at x) ps))) (bytes_long x p h)

clear_apart : (x : Bytes) (d : Descriptor) (p : ℕ) → Clear (span x p) d → Apart p (size_at x p) d.offset d.length
clear_apart x d p (inl h) = apart_before p (size_at x p) d.offset d.length h
clear_apart x d p (inr h) = apart_after p (size_at x p) d.offset d.length h

module _ (x : Bytes) (d : Descriptor) where
  -- what the loop over the records tells
  fit_room : (at : ℕ) (ps : List ℕ) → AllLie x ps (length ps) → at ≤ d.length → fit_from x d at ps ≡ true → at + length (moved x ps) ≤ d.length
  unfolding fit_from moved joined_bytes
  fit_room at [] lie h e = omega arith
  fit_room at (p ∷ ps) lie h e =
      let near = leb (at + size_at x p) d.length in
      let apart = disjoint (span x p) d in
      let g = leb-true (at + size_at x p) d.length (and_left near apart (and_left (near && apart) (fit_from x d (at + size_at x p) ps) e)) in
      let ih = fit_room (at + size_at x p) ps (λ i k. lie (suc i) (omega arith)) g (and_right (near && apart) (fit_from x d (at + size_at x p) ps) e) in
      omega (arith, moved_one x p ps (lie 0 (omega arith)))

  fit_apart : (at : ℕ) (ps : List ℕ) → fit_from x d at ps ≡ true → (i : ℕ) → i < length ps → Apart (get_or ps i 0) (size_at x (get_or ps i 0)) d.offset d.length
  unfolding fit_from
  fit_apart at [] e i h = absurd (omega arith)
  fit_apart at (p ∷ ps) e i h =
      let near = leb (at + size_at x p) d.length in
      let apart = disjoint (span x p) d in
      let t = and_right near apart (and_left (near && apart) (fit_from x d (at + size_at x p) ps) e) in
      go i h (fit_apart (at + size_at x p) ps (and_right (near && apart) (fit_from x d (at + size_at x p) ps) e)) (clear_apart x d p (disjoint_clear (span x p) d (true→T t)))
    where
      go : (i : ℕ) → i < suc (length ps) → ((j : ℕ) → j < length ps → Apart (get_or ps j 0) (size_at x (get_or ps j 0)) d.offset d.length)
          → Apart p (size_at x p) d.offset d.length → Apart (get_or (p ∷ ps) i 0) (size_at x (get_or (p ∷ ps) i 0)) d.offset d.length
      go zero h ih a = a
      go (suc i) h ih a = ih i (omega arith)

  -- where the test passes the records can be stored
  pub fits_fillable : (ps : List ℕ) → AllLie x ps (length ps) → area_end d ≤ length x → area_header_size ≤ d.length → fits x d ps ≡ true
      → Fillable x d.offset d.length ps
  fits_fillable ps lie inside header e = record {
    inside = inside;
    header = header;
    lie = lie;
    room = fit_room area_header_size ps lie header e;
    apart = fit_apart area_header_size ps e;
  }

  -- and it passes where they have room and no byte in common with the area
  pub clear_fit : (at : ℕ) (ps : List ℕ) → AllLie x ps (length ps) → at + length (moved x ps) ≤ d.length → ((i : ℕ) → i < length ps → Clear (span x (get_or ps i 0)) d)
      → fit_from x d at ps ≡ true
  unfolding fit_from
  clear_fit at [] lie room clear = refl
  clear_fit at (p ∷ ps) lie room clear =
      let m = moved_one x p ps (lie 0 (omega arith)) in
      rw (
        le-leb (at + size_at x p) d.length (omega arith),
        clear_disjoint (span x p) d (clear 0 (omega arith)),
        clear_fit (at + size_at x p) ps (λ i k. lie (suc i) (omega arith)) (omega arith) (λ i k. clear (suc i) (omega arith)),
      )

-- ---- the loop: the first i records have passed, and the next goes to `at`

pub record Fitting (x : Bytes) (d : Descriptor) (ps : List ℕ) (at i : ℕ) : Type 0 where
  pub within : at ≤ d.length
  pub so_far : fit_from x d at (drop i ps) ≡ fits x d ps

module _ (x : Bytes) (d : Descriptor) (ps : List ℕ) where
  pub fitting_begins : area_header_size ≤ d.length → Fitting x d ps area_header_size 0
  fitting_begins h = record { within = h; so_far = refl }

  module _ (at i : ℕ) (f : Fitting x d ps at i) where
    pub fitting_ends : length ps ≤ i → true ≡ fits x d ps
    unfolding fit_from
    fitting_ends h = rw (drop_of_length-le ps {i = i} h) at f.so_far

    module _ (h : i < length ps) where
      abbrev p : ℕ
      p = get_or ps i 0

      next : (leb (at + size_at x p) d.length && disjoint (span x p) d && fit_from x d (at + size_at x p) (drop (i + 1) ps)) ≡ fits x d ps
      unfolding fit_from
      next = rw (drop_step ps i h) at f.so_far

      pub fitting_full : d.length < at + size_at x p → false ≡ fits x d ps
      fitting_full g = rw (lt-leb (at + size_at x p) d.length g) at next

      module _ (room : at + size_at x p ≤ d.length) where
        pub fitting_common : disjoint (span x p) d ≡ false → false ≡ fits x d ps
        fitting_common e = rw (le-leb (at + size_at x p) d.length room, e) at next

        pub fitting_on : disjoint (span x p) d ≡ true → Fitting x d ps (at + size_at x p) (i + 1)
        fitting_on e = record { within = room; so_far = rw (le-leb (at + size_at x p) d.length room, e) at next }
