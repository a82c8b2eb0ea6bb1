-- Which blocks of a list hold a byte of a range, by their sizes alone.
use Prim.Native.Nat.{ℕ, suc, max, min, ◌+◌, ◌*◌, ◌≤◌, ◌<◌}
use Rattle.std.specs.Prelude.{◌≡◌, true, cond, List, [], ◌∷◌, length, drop, get_or}
use native.Mathlib.Omega.{arith}
use Rattle.std.proofs.Common.{drop-cons, ltb-true}
use Rattle.format.specs.Record.{block}
use Rattle.calls.specs.Areas.{largest_image}
use Rattle.calls.specs.Mount.{most_blocks}
use Rattle.calls.specs.Overwrite.{holds_byte}

-- what a block and the range share is not nothing
pub held_meets : (from to s n : ℕ) → holds_byte from to s n ≡ true → max s from < min (s + n) to
unfolding holds_byte
held_meets from to s n = ltb-true (max s from) (min (s + n) to)

-- all of these bytes
unfoldable pub total : List ℕ → ℕ
total [] = 0
total (n ∷ ns) = n + total ns

-- the sizes of those of the blocks that hold a byte of the range; the first of the blocks begins at s
unfoldable pub sizes_held : ℕ → ℕ → ℕ → List ℕ → List ℕ
sizes_held from to s [] = []
sizes_held from to s (n ∷ ns) = cond (holds_byte from to s n) (n ∷ sizes_held from to (s + n) ns) (sizes_held from to (s + n) ns)

-- each is that of a block that fits in an image, and together they are no more than a file can hold
pub record Sizes (ns : List ℕ) : Type 0 where
  pub small : (i : ℕ) → i < length ns → block.header_size + get_or ns i 0 ≤ largest_image
  pub few : total ns ≤ most_blocks * 65535

-- ---- a loop over them: the block i begins at s
pub record Position (ns : List ℕ) (s i : ℕ) : Type 0 where
  pub here : s + total (drop i ns) ≡ total ns

pub position_begins : (ns : List ℕ) → Position ns 0 0
position_begins ns = record { here = omega arith }

module _ {ns : List ℕ} {s i : ℕ} (a : Position ns s i) (h : i < length ns) where
  next : drop i ns ≡ get_or ns i 0 ∷ drop (suc i) ns
  next = drop-cons ns i 0 h

  pub position_within : s + get_or ns i 0 ≤ total ns
  unfolding total
  position_within = let e = rw next at a.here in omega arith

  pub position_next : Position ns (s + get_or ns i 0) (i + 1)
  unfolding total
  position_next =
      let e = rw next at a.here in
      let z : i + 1 ≡ suc i = omega arith in
      record { here = rw z (omega arith) }
