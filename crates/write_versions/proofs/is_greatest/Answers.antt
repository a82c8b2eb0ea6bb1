use Rattle.std.proofs.Common.{sym, ◌∙◌}
use Rattle.calls.specs.Rewrite.{last_sequence}
use Rattle.record_places.specs.Place.{by_place}
use Rattle.record_places.specs.Laws.{place_views}
use Rattle.write_versions.specs.Greatest.{eqb_comm}
use Rattle.write_versions.proofs.is_greatest.Goals as goal

pub returns-then-holds : goal.returns-then-holds
returns-then-holds c =
    let image = c.args.image.now in
    rw (sym c.holds.ensures ∙ c.if-holds.true, (place_views image).sequence c.args.p, c.sequence_at.ensures)
    (eqb_comm ((by_place image).sequence c.args.p) last_sequence)
