use Rattle.std.proofs.Common.{arith}
use Rattle.format_laws.specs.Tests.{via}
use Rattle.collect_stores.specs.Fits.{fitting_full, fitting_common, fitting_on, fitting_ends}
use Rattle.collect_stores.proofs.fits.Goals as goal

pub returns-then-end-span : goal.returns-then-end-span
returns-then-end-span c =
    let size = rw c.from-p.ensures at c.size_at-size.ensures in
    fitting_full _ _ _ _ _ c.loop-place.invariant c.loop-place-test.true (omega (arith, size, c.if-end-span.true))

pub returns-then-not-disjoint : goal.returns-then-not-disjoint
returns-then-not-disjoint c =
    let size = rw c.from-p.ensures at c.size_at-size.ensures in
    let common = rw (c.from-p.ensures, size) at c.disjoint.ensures in
    fitting_common _ _ _ _ _ c.loop-place.invariant c.loop-place-test.true (omega (arith, size, c.if-end-span.false)) (via common c.if-not-disjoint.true)

pub loop-place-preserved : goal.loop-place-preserved
loop-place-preserved c =
    let size = rw c.from-p.ensures at c.size_at-size.ensures in
    let apart = rw (c.from-p.ensures, size) at c.disjoint.ensures in
    rw size (fitting_on _ _ _ _ _ c.loop-place.invariant c.loop-place-test.true (omega (arith, size, c.if-end-span.false)) (via apart c.if-not-disjoint.false))

pub returns : goal.returns
returns c = fitting_ends _ _ _ _ _ c.loop-place.invariant c.loop-place-test.false
