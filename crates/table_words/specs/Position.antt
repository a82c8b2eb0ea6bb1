-- Where a number first stands in a list. Assumes nothing.
use Rattle.std.specs.Prelude.{Bool, cond, ◌||◌, List, [], ◌∷◌, ◌≡◌, ℕ, zero, suc, ◌+◌, ◌≤◌, ◌<◌, eqb, length, drop, get_or}

-- the first place of x, or the list's length where x does not stand in it
unfoldable pub position_of : ℕ → List ℕ → ℕ
position_of x [] = zero
position_of x (y ∷ ys) = cond (eqb y x) zero (suc (position_of x ys))

-- the same without recursion: no other p has these three (laws `position-IsFirst` and `position_only`)
pub record First (x : ℕ) (l : List ℕ) (p : ℕ) : Type 0 where
  pub within : p ≤ length l
  pub here : p < length l → get_or l p 0 ≡ x
  pub before : (j : ℕ) → j < p → get_or l j 0 ≡ x → ⊥

-- x is not among the first p of l
pub record Before (x : ℕ) (l : List ℕ) (p : ℕ) : Type 0 where
  pub within : p ≤ length l
  pub rest : position_of x l ≡ p + position_of x (drop p l)

-- whether x is one of the four from p on
unfoldable pub in_four : List ℕ → ℕ → ℕ → Bool
in_four l p x = ((eqb (get_or l p 0) x || eqb (get_or l (p + 1) 0) x) || eqb (get_or l (p + 2) 0) x) || eqb (get_or l (p + 3) 0) x
