-- Where records go.
use Rattle.std.specs.Prelude.{ℕ, ◌≡◌, refl, ◌∷◌}
use Rattle.std.proofs.Common.{sym, arith}
use Rattle.std.proofs.Math.Option.{Option, none, some}
use Rattle.calls.specs.Storing.{Space, Fit, keep_space}

-- a place found behind a space that has no room
pub kept_fit : (s : Space) (o : Option Fit) (f : Fit) → keep_space s o ≡ some f
    → (g : Fit) × (o ≡ some g) × (f.place ≡ g.place) × (f.left ≡ s ∷ g.left)
kept_fit s none f e = let z : ◌≡◌ {A = ℕ} 0 1 = cc in absurd (omega arith)
kept_fit s (some g) f e =
    let q : ◌≡◌ {A = Fit} (record { place = g.place; left = s ∷ g.left }) f = cc in
    (g, refl, (λ i. (sym q i).place), (λ i. (sym q i).left))
