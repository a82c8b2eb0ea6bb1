-- Checks in order. Document 01, "Numbers of refusal, in order of check".
use Rattle.std.specs.Prelude.{ℕ, List, [], ◌∷◌, Bool, cond}

-- a check: whether it fails, and the number that is then given
pub record Check : Type 0 where
  pub fails : Bool
  pub number : ℕ

infix 4 ◌refused_by◌
abbrev pub ◌refused_by◌ : Bool → ℕ → Check
◌refused_by◌ f n = record { fails = f; number = n }

-- the first check that fails decides; "0 is success"
unfoldable pub first_refusal : List Check → ℕ
first_refusal [] = 0
first_refusal (c ∷ l) = cond c.fails c.number (first_refusal l)
