-- Places for the blocks that hold a byte of the range, one after the other.
use Rattle.std.specs.Prelude.{ℕ, suc, ◌+◌, ◌≤◌, ◌<◌, ◌≡◌, true, false, take, drop, get_or, set}
use Rattle.std.proofs.Math.Path.{ap}
use Rattle.std.proofs.Common.{◌∙◌, arith, drop_of_length-le, drop-cons}
use Rattle.std.specs.Prelude.{Option, None, Some}
use Rattle.std.proofs.Math.Option.{none, some}
use mathlib.Core.List.{List, [], ◌∷◌}
use Rattle.std.proofs.Math.ListN.{length}
use Rattle.format.specs.Record.{block}
use Rattle.calls.specs.Storing.{first_fit}
use Rattle.calls.specs.Overwrite.{holds_byte}
use Rattle.write_room.specs.Spaces.{spaces_of, fit_of}
use Rattle.write_room.specs.Plan.{places_for, Planning, planning_begins, planning_fails, planning_on, planning_ends}
use Rattle.write_versions.specs.Held.{sizes_held, Position, position_begins, position_next}

-- of the blocks before i, which begins at s, those that hold a byte of the range have the first k places
pub record Taking (from to : ℕ) (ns es fs₀ qs₀ fs qs : List ℕ) (s k i : ℕ) : Type 0 where
  pub position : Position ns s i
  pub row : k ≤ i
  pub count : k + length (sizes_held from to s (drop i ns)) ≡ length (sizes_held from to 0 ns)
  pub planning : Planning (sizes_held from to 0 ns) (sizes_held from to s (drop i ns)) es fs₀ qs₀ fs qs k

pub taking_begins : (from to : ℕ) (ns es fs qs : List ℕ) → Taking from to ns es fs qs fs qs 0 0 0
taking_begins from to ns es fs qs = record {
  position = position_begins ns;
  row = omega arith;
  count = omega arith;
  planning = planning_begins (sizes_held from to 0 ns) es fs qs;
}

module _ {from to : ℕ} {ns es fs₀ qs₀ fs qs : List ℕ} {s k i : ℕ} (g : Taking from to ns es fs₀ qs₀ fs qs s k i) where
  module _ (h : i < length ns) where
    abbrev n : ℕ
    n = get_or ns i 0

    abbrev later : List ℕ
    later = sizes_held from to (s + n) (drop (i + 1) ns)

    next : drop i ns ≡ n ∷ drop (i + 1) ns
    next = let z : i + 1 ≡ suc i = omega arith in rw z (drop-cons ns i 0 h)

    -- a block that holds none
    pub taking_past : holds_byte from to s n ≡ false → Taking from to ns es fs₀ qs₀ fs qs (s + n) k (i + 1)
    unfolding sizes_held
    taking_past e =
        let same : sizes_held from to s (drop i ns) ≡ later = rw (next, e) in
        record {
          position = position_next g.position h;
          row = omega (arith, g.row);
          count = rw same at g.count;
          planning = rw same at g.planning;
        }

    -- and one that holds some
    module _ (e : holds_byte from to s n ≡ true) (r : Option ℕ) (fs' : List ℕ)
        (took : first_fit (block.header_size + n) (spaces_of fs es) ≡ fit_of r (spaces_of fs' es)) where
      more : sizes_held from to s (drop i ns) ≡ n ∷ later
      unfolding sizes_held
      more = rw (next, e)

      pub taking_fails : r ≡ None → places_for (spaces_of fs₀ es) (sizes_held from to 0 ns) ≡ none
      taking_fails = planning_fails g.planning n later more r fs' took

      pub taking_on : length qs ≡ length ns → length fs' ≡ length fs → (q : ℕ) → r ≡ Some q
          → Taking from to ns es fs₀ qs₀ fs' (set qs k q) (s + n) (k + 1) (i + 1)
      taking_on long l q a = record {
        position = position_next g.position h;
        row = omega (arith, g.row);
        count = omega (arith, g.count, ap length more);
        planning = planning_on g.planning n later more r fs' took (omega (arith, g.row)) l q a;
      }

  pub taking_ends : length ns ≤ i → places_for (spaces_of fs₀ es) (sizes_held from to 0 ns) ≡ some (take (length (sizes_held from to 0 ns)) qs)
  unfolding sizes_held
  taking_ends h =
      let z : sizes_held from to s (drop i ns) ≡ [] = rw (drop_of_length-le ns {i = i} h) in
      let c : k ≡ length (sizes_held from to 0 ns) = omega (arith, g.count, ap length z) in
      planning_ends g.planning z ∙ rw c
