-- What the code answers of a call that may be refused, in the words of the definitions. Document 01, "Numbers of refusal, in order of check".
use Rattle.std.specs.Prelude.{ℕ, ◌≢◌, Result, Ok, Err}
use Rattle.std.proofs.Common.{arith}
use Rattle.calls.specs.Attempt.{Attempt, goes, refuses}
use Rattle.calls.specs.declared.Refusal.{Refusal}
use Rattle.calls.specs.declared.Refusal.TheVariants.{BadAreas, SameAreaId, NoFileOrScratch, ShortScratch, TooManyIds, Conflict, NoRoot, BadPath, NotFound, Ambiguous, WrongKind, Exists, Broken, PastEnd, NoRoom, LastSequence, NoSource, IntoItself}

-- the number of a refusal
abbrev pub code : Refusal → ℕ
code BadAreas = 1
code SameAreaId = 2
code NoFileOrScratch = 3
code ShortScratch = 4
code TooManyIds = 5
code Conflict = 6
code NoRoot = 7
code BadPath = 8
code NotFound = 9
code Ambiguous = 10
code WrongKind = 11
code Exists = 12
code Broken = 13
code PastEnd = 14
code NoRoom = 15
code LastSequence = 16
code NoSource = 17
code IntoItself = 18

-- an outcome as an attempt: it goes with what is answered, or it is refused
abbrev pub outcome_of : {A : Type 0} → Result A Refusal → Attempt A
outcome_of (Ok a) = goes a
outcome_of (Err r) = refuses (code r)

-- "0 is success"
pub code_nonzero : (r : Refusal) → code r ≢ 0
code_nonzero BadAreas e = omega (arith, e)
code_nonzero SameAreaId e = omega (arith, e)
code_nonzero NoFileOrScratch e = omega (arith, e)
code_nonzero ShortScratch e = omega (arith, e)
code_nonzero TooManyIds e = omega (arith, e)
code_nonzero Conflict e = omega (arith, e)
code_nonzero NoRoot e = omega (arith, e)
code_nonzero BadPath e = omega (arith, e)
code_nonzero NotFound e = omega (arith, e)
code_nonzero Ambiguous e = omega (arith, e)
code_nonzero WrongKind e = omega (arith, e)
code_nonzero Exists e = omega (arith, e)
code_nonzero Broken e = omega (arith, e)
code_nonzero PastEnd e = omega (arith, e)
code_nonzero NoRoom e = omega (arith, e)
code_nonzero LastSequence e = omega (arith, e)
code_nonzero NoSource e = omega (arith, e)
code_nonzero IntoItself e = omega (arith, e)
