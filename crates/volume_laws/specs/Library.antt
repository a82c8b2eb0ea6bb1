-- The definitions' words for lists say what the library's say.
use Rattle.std.specs.Prelude.{◌≡◌, refl, Bool, List, ◌∷◌}
use Rattle.std.specs.List.{filter, list_all}
use Rattle.std.proofs.lemmas.List.Recursion.{same_from_clauses}
use Rattle.std.proofs.Math.Bool.{cond, ◌&&◌}
use Rattle.volume.specs.Lists.{keep, all}

module _ {A : Type 0} (f : A → Bool) where
  pub filter_keeps : (l : List A) → filter f l ≡ keep f l
  unfolding keep
  filter_keeps = same_from_clauses (filter f) (keep f) (λ a l. cond (f a) (a ∷ l) l) refl (λ a l. refl) (λ a l. refl)

  pub list_all_is : (l : List A) → list_all f l ≡ all f l
  unfolding all
  list_all_is = same_from_clauses (list_all f) (all f) (λ a b. f a && b) refl (λ a l. refl) (λ a l. refl)
