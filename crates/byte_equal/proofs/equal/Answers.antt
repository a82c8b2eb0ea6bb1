-- What `==` tells of two slices is what `same` tells.
use Rattle.std.proofs.Common.{◌≡◌, ap, ◌∙◌, refl, Bool, ◌&&◌, eqb, List, [], ◌∷◌, ℕ}
use Rattle.std.specs.Cmp.Lexicographic.{pointwise}
use Rattle.volume.specs.Lists.{same}
use Rattle.byte_equal.proofs.equal.Goals as goal

same_is : (a b : List ℕ) → pointwise eqb a b ≡ same a b
unfolding same
same_is [] [] = refl
same_is [] (y ∷ b) = refl
same_is (x ∷ a) [] = refl
same_is (x ∷ a) (y ∷ b) = ap (λ (t : Bool). eqb x y && t) (same_is a b)

pub returns : goal.returns
returns c = c.eq.ensures ∙ same_is c.args.a.now c.args.b.now
