-- The records that have come have passed.
use Rattle.collect_stores.specs.Fits.{Fitting}
use Rattle.collect_stores.proofs.fits.Given as goal

abbrev pub invariant-loop-place : goal.invariant-loop-place
invariant-loop-place l = Fitting l.image l.area l.places l.at l.place-index
