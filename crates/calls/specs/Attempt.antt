-- What becomes of a call that may be refused. Demand 1: "A refused call changes no byte of the image"; document 01, "Numbers of refusal, in order of check".
use Rattle.std.specs.Prelude.{ℕ, Bool, cond, eqb}
use Rattle.volume.specs.Tree.{Found, found, absent}

-- it goes, with what it found, or it is refused with a number
pub data Attempt (A : Type 0) : Type 0 where
  goes : A → Attempt A
  refuses : ℕ → Attempt A

-- the number that the call answers; "0 is success"
abbrev pub number_of : {A : Type 0} → Attempt A → ℕ
number_of (goes a) = 0
number_of (refuses r) = r

-- what it leaves, x when refused: "A refused call changes no byte of the image", "A refused answer's other numbers are 0"
abbrev pub leaves : {A B : Type 0} → B → (A → B) → Attempt A → B
leaves x f (goes a) = f a
leaves x f (refuses r) = x

-- in order of check: the number r, unless it is 0, before t
abbrev pub unless : {A : Type 0} → ℕ → Attempt A → Attempt A
unless r t = cond (eqb r 0) t (refuses r)

-- at what a path leads to, by the checks of the call; "callers go on only with a found one"
abbrev pub at_found : (ℕ → ℕ) → Found → Attempt ℕ
at_found checks (absent r) = refuses r
at_found checks (found i) = unless (checks i) (goes i)

-- a write at a path: the number of "checks 1 to 7", 8 where it is bad, 9 to 11 where the path leads nowhere, then the checks of the call
unfoldable pub attempt_at : ℕ → Bool → Found → (ℕ → ℕ) → Attempt ℕ
attempt_at mount bad o checks = unless mount (at_found checks (cond bad (absent 8) o))
