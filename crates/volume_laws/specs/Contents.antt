-- The blocks of a file in two volumes.
use Rattle.std.specs.Prelude.{◌≡◌, ℕ}
use Rattle.std.proofs.Math.Option.{some}
use Rattle.std.proofs.Math.Dec.{T}
use Rattle.volume.specs.View.{View}
use Rattle.volume.specs.Counting.{Volume, block_of}
use Rattle.volume.specs.Contents.{owns}

-- of each block of the file f the volume v has r and w has φ r, behind the same block
abbrev pub Carried : {A : Type 0} → View A → Volume A → Volume A → ℕ → (A → A) → Type 0
Carried {A} F v w f φ = (i : ℕ) (r : A) → block_of F v i ≡ some r → T (owns F (block_of F v) f i)
    → (block_of F w i ≡ some (φ r)) × (F.previous (φ r) ≡ F.previous r)
