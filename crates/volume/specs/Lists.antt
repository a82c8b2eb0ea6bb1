-- Lists filtered and compared by tests that compute.
use Rattle.std.specs.Prelude.{ℕ, List, [], ◌∷◌, ◌++◌, Bool, true, false, cond, not, ◌&&◌, eqb}
use Rattle.std.proofs.Math.Option.{Option, none, some}

module _ {A : Type 0} where
  -- the members that pass a test, in order
  unfoldable pub keep : (A → Bool) → List A → List A
  keep p [] = []
  keep p (a ∷ l) = cond (p a) (a ∷ keep p l) (keep p l)

  unfoldable pub all : (A → Bool) → List A → Bool
  all p [] = true
  all p (a ∷ l) = p a && all p l

  -- put where it first comes before what is there
  unfoldable pub insert : (A → A → Bool) → A → List A → List A
  insert before a [] = a ∷ []
  insert before a (b ∷ l) = cond (before a b) (a ∷ b ∷ l) (b ∷ insert before a l)

  -- in order
  unfoldable pub sort : (A → A → Bool) → List A → List A
  sort before [] = []
  sort before (a ∷ l) = insert before a (sort before l)

  -- the first member, where there is one
  unfoldable pub first : List A → Option A
  first [] = none
  first (a ∷ l) = some a

-- what each member gives, one after the other
unfoldable pub joined : {A B : Type 0} → (A → List B) → List A → List B
joined f [] = []
joined f (a ∷ l) = f a ++ joined f l

-- two lists of numbers are equal
unfoldable pub same : List ℕ → List ℕ → Bool
same [] [] = true
same [] (y ∷ m) = false
same (x ∷ l) [] = false
same (x ∷ l) (y ∷ m) = eqb x y && same l m

-- the numbers of a list, each once, in the order of their first places
unfoldable pub once : List ℕ → List ℕ
once [] = []
once (x ∷ l) = x ∷ keep (λ y. not (eqb y x)) (once l)

-- a list of none, of one or of several
pub data Only (A : Type 0) : Type 0 where
  nobody several : Only A
  one : A → Only A

unfoldable pub only : {A : Type 0} → List A → Only A
only [] = nobody
only (a ∷ []) = one a
only (a ∷ b ∷ l) = several

-- goes on with what is there
abbrev pub bind : {A B : Type 0} → Option A → (A → Option B) → Option B
bind none f = none
bind (some a) f = f a

-- what is there passes a test
abbrev pub has : {A : Type 0} → (A → Bool) → Option A → Bool
has p none = false
has p (some a) = p a
