-- The first space with room, by its number.
use Rattle.std.specs.Prelude.{ℕ, zero, suc, ◌+◌, ◌≤◌, ◌<◌, ◌≡◌, refl, List, [], ◌∷◌, length, get_or, set, Option, MatchOption}
use Rattle.std.proofs.Math.Option.{none, some}
use Rattle.std.proofs.Common.{arith, le-leb}
use Rattle.std.proofs.lemmas.Bool.{lt-leb}
use Rattle.calls.specs.Storing.{first_fit}
use Rattle.write_room.specs.Spaces.{spaces_of}

-- none of the spaces before i has room for n bytes
abbrev pub NoneBefore : ℕ → List ℕ → List ℕ → ℕ → Type 0
NoneBefore n fs es i = (j : ℕ) → j < i → get_or es j 0 < get_or fs j 0 + n

-- i is the first space with room, or there is none
abbrev pub First : ℕ → List ℕ → List ℕ → Option ℕ → Type 0
First n fs es r =
    MatchOption r (NoneBefore n fs es (length fs)) (λ i. (i < length fs) × NoneBefore n fs es i × (get_or fs i 0 + n ≤ get_or es i 0))

pub none_fits : (n : ℕ) (fs es : List ℕ) → length fs ≡ length es → NoneBefore n fs es (length fs) → first_fit n (spaces_of fs es) ≡ none
unfolding first_fit spaces_of
none_fits n [] es l b = refl
none_fits n (f ∷ fs) [] l b = absurd (omega arith)
none_fits n (f ∷ fs) (e ∷ es) l b =
    rw (lt-leb (f + n) e (b 0 (omega arith)), none_fits n fs es (omega arith) (λ j h. b (suc j) (omega arith)))

pub one_fits : (n : ℕ) (fs es : List ℕ) (i : ℕ) → length fs ≡ length es → i < length fs → NoneBefore n fs es i → get_or fs i 0 + n ≤ get_or es i 0
    → first_fit n (spaces_of fs es) ≡ some (record { place = get_or fs i 0; left = spaces_of (set fs i (get_or fs i 0 + n)) es })
unfolding first_fit spaces_of
one_fits n [] es i l h b g = absurd (omega arith)
one_fits n (f ∷ fs) [] i l h b g = absurd (omega arith)
one_fits n (f ∷ fs) (e ∷ es) zero l h b g = rw (le-leb (f + n) e g)
one_fits n (f ∷ fs) (e ∷ es) (suc i) l h b g =
    rw (lt-leb (f + n) e (b 0 (omega arith)), one_fits n fs es i (omega arith) (omega arith) (λ j k. b (suc j) (omega arith)) g)
