-- Which writes go, and that a refused one changes nothing. Demand 1: "A refused call changes no byte of the image"; document 01, "Numbers of
-- refusal, in order of check".
use Rattle.std.specs.Prelude.{ℕ, ◌≡◌, ◌≢◌, Bool, cond, not, List, [], ◌∷◌, T, eqb}
use Rattle.std.proofs.Math.Path.{refl}
use Rattle.std.proofs.Common.{sym, arith, T_not, eqb-true}
use Rattle.std.proofs.Math.Bool.{true, false}
use Rattle.std.proofs.Math.Dec.{eqb_refl}
use Rattle.volume.specs.Lists.{all}
use Rattle.volume.specs.Tree.{Found, found, absent}
use Rattle.volume_laws.specs.Tests.{and_T, eqb_false}
use Rattle.calls.specs.Refusal.{Check, first_refusal}
use Rattle.calls.specs.Attempt.{Attempt, goes, refuses, number_of, leaves, unless, at_found, attempt_at}

module _ {A : Type 0} where
  pub refused_leaves : {B : Type 0} (x : B) (f : A → B) (t : Attempt A) → number_of t ≢ 0 → leaves x f t ≡ x
  refused_leaves x f (goes a) h = absurd (h refl)
  refused_leaves x f (refuses r) h = refl

  pub unless_goes : (r : ℕ) (t : Attempt A) → number_of (unless r t) ≡ 0 → (r ≡ 0) × (number_of t ≡ 0)
  unless_goes r t e = go (eqb r 0) refl e
    where
      go : (b : Bool) → eqb r 0 ≡ b → number_of (cond b t (refuses r)) ≡ 0 → (r ≡ 0) × (number_of t ≡ 0)
      go true q z = (eqb-true r 0 q, z)
      go false q z = absurd (eqb_false r 0 q z)

-- what a write that goes has passed
pub record AttemptGoes (mount : ℕ) (bad : Bool) (o : Found) (checks : ℕ → ℕ) : Type 0 where
  pub mounted : mount ≡ 0
  pub good : bad ≡ false
  pub inode : ℕ
  pub found_there : o ≡ found inode
  pub checked : checks inode ≡ 0
  pub goes_on : attempt_at mount bad o checks ≡ goes inode

module _ (mount : ℕ) (checks : ℕ → ℕ) where
  found_goes : (o : Found) → mount ≡ 0 → ((r : ℕ) → o ≡ absent r → r ≢ 0) → number_of (at_found checks o) ≡ 0 → AttemptGoes mount false o checks
  unfolding attempt_at
  found_goes (absent r) m h e = absurd (h r refl e)
  found_goes (found i) m h e =
      let c = (unless_goes (checks i) (goes i) e).0 in
      record { mounted = m; good = refl; inode = i; found_there = refl; checked = c; goes_on = rw (m, c) }

  -- where it goes; a path that leads nowhere has a number other than 0
  pub attempt_goes : (bad : Bool) (o : Found) → ((r : ℕ) → o ≡ absent r → r ≢ 0) → number_of (attempt_at mount bad o checks) ≡ 0
      → AttemptGoes mount bad o checks
  unfolding attempt_at
  attempt_goes true o h e = absurd (omega (arith, (unless_goes {A = ℕ} mount (refuses 8) e).1))
  attempt_goes false o h e = let u = unless_goes mount (at_found checks o) e in found_goes o u.0 h u.1

-- ---- numbers that are not given

-- a number that no check gives is not given
pub never : (n : ℕ) (l : List Check) → n ≢ 0 → T (all (λ c. not (eqb c.number n)) l) → first_refusal l ≢ n
unfolding first_refusal all
never n [] z t e = z (sym e)
never n (c ∷ l) z t e = go c.fails e (never n l z u.1)
  where
    u : T (not (eqb c.number n)) × T (all (λ c. not (eqb c.number n)) l)
    u = and_T (not (eqb c.number n)) (all (λ c. not (eqb c.number n)) l) t

    go : (b : Bool) → cond b c.number (first_refusal l) ≡ n → first_refusal l ≢ n → ⊥
    go true q ih = T_not (eqb c.number n) u.0 (rw q (eqb_refl n))
    go false q ih = ih q

-- nor at what a path leads to, if the path does not give it
pub found_never : (n : ℕ) (checks : ℕ → ℕ) (o : Found) → n ≢ 0 → ((r : ℕ) → o ≡ absent r → r ≢ n) → ((i : ℕ) → checks i ≢ n)
    → number_of (at_found checks o) ≢ n
found_never n checks (absent r) z h c e = h r refl e
found_never n checks (found i) z h c e = go (eqb (checks i) 0) e
  where
    go : (b : Bool) → number_of (cond b (goes i) (refuses (checks i))) ≢ n
    go true q = z (sym q)
    go false q = c i q
