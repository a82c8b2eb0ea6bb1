-- Tests that compute, as facts and back.
use Rattle.std.specs.Prelude.{◌≡◌, refl, ◌≢◌, Bool, true, false, not, ◌&&◌, ◌||◌, ℕ, T, eqb}
use Rattle.std.proofs.Common.{sym, arith, eqb→eq, T_not}
use Rattle.std.proofs.Math.Option.{Option, none, some}
use Rattle.std.proofs.Math.Decide.{ℕ_discrete}
use Rattle.std.proofs.Math.Dec.{eqb_refl, not_T}
use Rattle.volume.specs.Lists.{has}

-- a test passed, as an equation and back
pub T→true : {b : Bool} → T b → b ≡ true
T→true {b = true} t = refl
T→true {b = false} t = absurd t

pub true→T : {b : Bool} → b ≡ true → T b
true→T e = rw e tt

-- a test failed
pub not_T→false : {b : Bool} → ¬ T b → b ≡ false
not_T→false {b = true} n = absurd (n tt)
not_T→false {b = false} n = refl

-- a test that is negated, and one that fails
pub not_is_false : (b : Bool) → not b ≡ false → b ≡ true
not_is_false true e = refl
not_is_false false e = sym e

pub or_is_false : (a b : Bool) → (a || b) ≡ false → (a ≡ false) × (b ≡ false)
or_is_false true b e = let z : ◌≡◌ {A = ℕ} 0 1 = cc in absurd (omega arith)
or_is_false false b e = (refl, e)

-- two tests that pass together are equal
pub T_iff : (a b : Bool) → (T a → T b) → (T b → T a) → a ≡ b
T_iff true true f g = refl
T_iff true false f g = absurd (f tt)
T_iff false true f g = absurd (g tt)
T_iff false false f g = refl

-- both tests, and each of them
pub and_T : (a b : Bool) → T (a && b) → T a × T b
and_T true b t = (tt, t)
and_T false b t = absurd t

pub T_and : (a b : Bool) → T a → T b → T (a && b)
T_and true b s t = t
T_and false b s t = absurd s

-- one test or the other, and one that follows from the other
pub or_T : (a b : Bool) → T (a || b) → ¬ T a → T b
or_T true b t n = absurd (n tt)
or_T false b t n = t

pub implies_T : (a b : Bool) → T (not a || b) → T a → T b
implies_T a b t s = or_T (not a) b t (λ n. T_not a n s)

-- equality of numbers
pub eqb_self : (n : ℕ) → eqb n n ≡ true
eqb_self n = T→true (eqb_refl n)

pub eqb_false : (m n : ℕ) → eqb m n ≡ false → m ≢ n
eqb_false m n e q = let t : T (eqb m n) = rw q (eqb_refl n) in rw e at t

pub eqb_differ : (m n : ℕ) → m ≢ n → eqb m n ≡ false
eqb_differ m n h = not_T→false (λ t. h (eqb→eq m n t))

-- a number other than another passes the test for it
pub T_other : (m n : ℕ) → m ≢ n → T (not (eqb m n))
T_other m n h = not_T (eqb m n) (λ t. h (eqb→eq m n t))

pub not_self : (n : ℕ) → ¬ T (not (eqb n n))
not_self n t = let e : T (not true) = rw (eqb_self n) at t in e

-- numbers that cannot differ are equal
pub stable : (m n : ℕ) → ¬ (m ≢ n) → m ≡ n
stable m n h = go (ℕ_discrete m n)
  where
    go : Dec (m ≡ n) → m ≡ n
    go (yes e) = e
    go (no e) = absurd (h e)

-- what passes a test is there
pub has_some : {A : Type 0} (p : A → Bool) (o : Option A) → T (has p o) → (r : A) × (o ≡ some r) × T (p r)
has_some p none t = absurd t
has_some p (some r) t = (r, refl, t)
