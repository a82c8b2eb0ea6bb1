use Rattle.std.proofs.Common.{◌∙◌, ap, rules, tests, length}
use Rattle.std.proofs.Math.Seq.{take-length}
use Rattle.std.proofs.lemmas.Iterator.{YieldsList-from_slice}
use Rattle.std.proofs.lemmas.Iterator.Consumers.{YieldsList-at, YieldsList-from_filter, count_from_yields_List}
use Rattle.volume_laws.specs.Library.{filter_keeps}
use Rattle.record_places.specs.Place.{by_place}
use Rattle.inode_fate.specs.Fates.{live_by, live_rows}
use Rattle.inode_fate.proofs.live_count.Goals as goal

pub returns : goal.returns
unfolding live_rows
returns c =
    let ids = c.args.rows.now.ids.now in
    let live = live_by (by_place c.args.rows.now.image.now) (length ids) ids c.args.rows.now.spots.now in
    count_from_yields_List c.filter.result c.count.result c.count.ensures.ran
    (YieldsList-from_filter _ live (YieldsList-at c.filter.ensures.source (YieldsList-from_slice ids cc))
    c.filter.ensures.closure (λ x r q k. search (rules, tests)))
    ∙ ap length (filter_keeps live ids) ∙ rw (take-length ids)
