-- The order of counts is that of their tallies, where these lie within 127 of each other.
use Rattle.std.specs.Prelude.{ℕ, ◌+◌, ◌-◌, ◌%◌, ◌≤◌, ◌<◌, ◌≡◌, true, false, ◌&&◌, leb, ltb}
use Rattle.std.proofs.Math.Bool.{and-false}
use Rattle.std.proofs.Common.{arith, leb→le, lt-ltb, le-ltb, le-leb}
use Rattle.std.proofs.Math.Decide.{dec_lt, ℕ_discrete}
use Rattle.std.proofs.lemmas.Bool.{lt-leb}
use Rattle.volume_laws.specs.Tests.{true→T, and_T}
use Rattle.calls.specs.Collect.{precedes}
use Rattle.collect_turns.specs.Order.{past}

-- two counts do not precede each other
pub precedes_one_way : (a b : ℕ) → a < 256 → b < 256 → precedes a b ≡ true → precedes b a ≡ false
unfolding precedes
precedes_one_way a b h g p =
    let there = past a b in
    let back = past b a in
    let q = and_T (leb 1 there) (leb there 127) (true→T p) in
    let x = leb→le 1 there q.0 in
    let y = leb→le there 127 q.1 in
    let far : 127 < back = omega arith in
    rw (lt-leb back 127 far, and-false (leb 1 back))

-- how far the count of y lies above that of x
abbrev distance : ℕ → ℕ → ℕ
distance x y = past (x % 256) (y % 256)

above : (x y : ℕ) → x ≤ y → y ≤ x + 127 → distance x y ≡ y - x
above x y h g = omega arith

below : (x y : ℕ) → y < x → x ≤ y + 127 → distance x y ≡ 256 - (x - y)
below x y h g = omega arith

pub precedes_is : (x y : ℕ) → x ≤ y + 127 → y ≤ x + 127 → precedes (x % 256) (y % 256) ≡ ltb x y
unfolding precedes
precedes_is x y h g = go (dec_lt x y) (ℕ_discrete x y)
  where
    go : Dec (x < y) → Dec (x ≡ y) → (leb 1 (distance x y) && leb (distance x y) 127) ≡ ltb x y
    go (yes l) e = rw (above x y (omega arith) g, le-leb 1 (y - x) (omega arith), le-leb (y - x) 127 (omega arith), lt-ltb x y l)
    go (no l) (yes e) = rw (above x y (omega arith) g, lt-leb 1 (y - x) (omega arith), le-ltb x y (omega arith))
    go (no l) (no e) =
        rw (below x y (omega arith) h, le-leb 1 (256 - (x - y)) (omega arith), lt-leb (256 - (x - y)) 127 (omega arith), le-ltb x y (omega arith))
