-- What a file of no block gives.
use Rattle.std.specs.Prelude.{ℕ, zero, suc, ◌≡◌}
use Rattle.std.proofs.Math.Path.{refl}
use Rattle.std.proofs.Math.Bool.{cond}
use Rattle.std.proofs.Math.Option.{some}
use mathlib.Core.List.{[]}
use native.Mathlib.Omega.{arith}
use Rattle.std.proofs.Math.Dec.{eqb}
use Rattle.std.proofs.lemmas.Bool.{lt-leb}
use Rattle.volume.specs.Contents.{text_of}
use Rattle.volume_laws.specs.Tests.{eqb_differ}
use Rattle.calls.specs.Read.{given, refused, give_blocks, give_file}

-- a read of no block: "position equal to size reads 0 bytes; one more is 14"
pub empty_given : (position room : ℕ) → give_file (some []) position room ≡ cond (eqb position 0) (given [] 0) (refused 14)
unfolding give_blocks text_of
empty_given zero zero = refl
empty_given zero (suc room) = refl
empty_given (suc position) room = rw (lt-leb (suc position) 0 (omega arith), eqb_differ (suc position) 0 (λ e. omega arith))
