-- `collect_source::none_ahead`: no area is ahead if none of those left is.
use Rattle.std.proofs.Common.{◌≡◌, drop}
use Rattle.area_list.specs.Described.{described}
use Rattle.collect_source.specs.Source.{none_ahead}
use Rattle.collect_source.proofs.none_ahead.Given as goal

abbrev pub invariant-loop-i : goal.invariant-loop-i
invariant-loop-i l =
    none_ahead l.image l.wanted l.count (described (drop l.i l.starts) (drop l.i l.spans)) ≡ none_ahead l.image l.wanted l.count (described l.starts l.spans)
