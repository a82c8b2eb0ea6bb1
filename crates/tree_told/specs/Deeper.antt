-- Each "deeper" stands behind the line of a directory that is cut short.
use Rattle.std.specs.Prelude.{Bool}
use Rattle.std.proofs.Math.Bool.{true, false}
use Rattle.volume.specs.Listing.{Line, shown, deeper}

abbrev pub is_deeper : Line → Bool
is_deeper (shown d i) = false
is_deeper deeper = true
