use Rattle.std.proofs.Common.{◌&&◌, sym, ◌∙◌}
use Rattle.std.proofs.Math.Path.{ap₂}
use Rattle.format_laws.specs.Crc.{Octets}
use Rattle.area_erased.specs.Erased.{erased_sixty_four}
use Rattle.area_erased.proofs.erased_from.Goals as goal

pub loop-i-preserved : goal.loop-i-preserved
loop-i-preserved c =
    let s = c.args.s.now in
    let o : Octets s = record { at = λ i h. (c.type_inv.s i).fits } in
    let e = c.if-erased_thirty_two.true in
    erased_sixty_four s o c.loop-i.i c.loop-i-test.true (ap₂ ◌&&◌ (sym c.erased_thirty_two.ensures) (sym c.erased_thirty_two-in-loop-i.ensures) ∙ e) c.loop-i.invariant
