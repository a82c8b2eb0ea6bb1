-- Free space as two lists of numbers, and where a record goes. Document 01, "Create, append, unlink".
use Rattle.std.specs.Prelude.{ℕ, ◌+◌, ◌≤◌, ◌<◌, ◌≡◌, refl, Bool, true, false, cond, List, [], ◌∷◌, ◌++◌, length, take, set, leb}
use Rattle.std.proofs.Common.{ap, subst, arith, add-one, length-take, take-suc-set, leb-true}
use Rattle.std.specs.Prelude.{Option, None, Some, IfSome}
use Rattle.std.proofs.Math.Option.{Option as Maybe, none, some}
use Rattle.calls.specs.Storing.{Space, Fit, keep_space, first_fit}
use Rattle.table_rows.specs.Answer.{meant}
use Rattle.calls_laws.specs.Storing.{kept_fit}

-- the spaces that two slices hold: where each starts and where it ends
unfoldable pub spaces_of : List ℕ → List ℕ → List Space
spaces_of [] es = []
spaces_of (f ∷ fs) [] = []
spaces_of (f ∷ fs) (e ∷ es) = record { from = f; end = e } ∷ spaces_of fs es

-- what an answer of `take_place` says, with the spaces left
abbrev pub fit_of : Option ℕ → List Space → Maybe Fit
fit_of (Some p) left = some (record { place = p; left = left })
fit_of None left = none

-- the place of a fit
abbrev pub place_in : Maybe Fit → Maybe ℕ
place_in none = none
place_in (some f) = some f.place

pub place_of_fit : (r : Option ℕ) (left : List Space) → meant r ≡ place_in (fit_of r left)
place_of_fit (Some p) left = refl
place_of_fit None left = refl

-- n bytes at the place end within m
abbrev pub EndsAt : ℕ → ℕ → Option ℕ → Type 0
EndsAt n m r = IfSome r (λ p. p + n ≤ m)

-- P holds of every space
abbrev pub Each : (Space → Type 0) → List Space → Type 0
Each P [] = Unit {0}
Each P (s ∷ ss) = P s × Each P ss

-- what holds of a space holds of every part of it
abbrev pub OfParts : (Space → Type 0) → Type 0
OfParts P = (s t : Space) → s.from ≤ t.from → t.end ≤ s.end → P s → P t

-- every space ends within m
abbrev pub EndsWithin : ℕ → Space → Type 0
EndsWithin m s = s.end ≤ m

abbrev pub Within : ℕ → List Space → Type 0
Within m = Each (EndsWithin m)

-- none of the m bytes from p on is in the space
abbrev pub ClearOf : ℕ → ℕ → Space → Type 0
ClearOf p m s = (j : ℕ) → j < m → s.from ≤ p + j → p + j < s.end → ⊥

pub clear_parts : (p m : ℕ) → OfParts (ClearOf p m)
clear_parts p m s t h g c j l a b = c j l (omega arith) (omega arith)

-- what holds of every space holds of where n bytes fit, and of the spaces left
abbrev pub FitIn : (Space → Type 0) → ℕ → Fit → Type 0
FitIn P n f = P (record { from = f.place; end = f.place + n }) × Each P f.left

pub fit_each : (P : Space → Type 0) → OfParts P → (n : ℕ) (ss : List Space) (f : Fit) → first_fit n ss ≡ some f → Each P ss → FitIn P n f
unfolding first_fit
fit_each P c n [] f e w = let z : ◌≡◌ {A = ℕ} 0 1 = cc in absurd (omega arith)
fit_each P c n (s ∷ ss) f e w = go (leb (s.from + n) s.end) refl (λ g q. fit_each P c n ss g q w.1) e
  where
    go : (b : Bool) → leb (s.from + n) s.end ≡ b → ((g : Fit) → first_fit n ss ≡ some g → FitIn P n g)
        → cond b (some (record { place = s.from; left = record { from = s.from + n; end = s.end } ∷ ss })) (keep_space s (first_fit n ss)) ≡ some f
        → FitIn P n f
    go true t ih q =
        let r : ◌≡◌ {A = Fit} (record { place = s.from; left = record { from = s.from + n; end = s.end } ∷ ss }) f = cc in
        let l = leb-true (s.from + n) s.end t in
        subst (FitIn P n) r (
          c s (record { from = s.from; end = s.from + n }) (omega arith) l w.0,
          (c s (record { from = s.from + n; end = s.end }) (omega arith) (omega arith) w.0, w.1),
        )
    go false t ih q =
        let k = kept_fit s (first_fit n ss) f q in
        let h = ih k.0 k.1 in
        (rw k.2 h.0, rw k.3 (w.0, h.1))

pub fit_place : (n m : ℕ) (ss : List Space) (r : Option ℕ) (left : List Space) → first_fit n ss ≡ fit_of r left → Within m ss → EndsAt n m r
fit_place n m ss (Some p) left e w = (fit_each (EndsWithin m) (λ s t h g k. omega arith) n ss _ e w).0
fit_place n m ss None left e w = tt

-- one space more behind
join_one : (fs es : List ℕ) (f e : ℕ) → length fs ≡ length es
    → spaces_of (fs ++ (f ∷ [])) (es ++ (e ∷ [])) ≡ spaces_of fs es ++ (record { from = f; end = e } ∷ [])
unfolding spaces_of
join_one [] [] f e h = refl
join_one [] (m ∷ es) f e h = absurd (omega arith)
join_one (p ∷ fs) [] f e h = absurd (omega arith)
join_one (p ∷ fs) (m ∷ es) f e h = ap (λ (l : List Space). record { from = p; end = m } ∷ l) (join_one fs es f e (omega arith))

pub spaces_more : (fs es : List ℕ) (k f e : ℕ) → k < length fs → k < length es
    → spaces_of (take (k + 1) (set fs k f)) (take (k + 1) (set es k e)) ≡ spaces_of (take k fs) (take k es) ++ (record { from = f; end = e } ∷ [])
spaces_more fs es k f e h g =
    rw (add-one, take-suc-set fs k f h, take-suc-set es k e g)
    (join_one (take k fs) (take k es) f e (omega (arith, length-take k fs, length-take k es)))
