-- `collect_source::first_leading`: the first that leads among the areas left is the first of all.
use Rattle.std.proofs.Common.{◌≡◌, drop}
use Rattle.volume.specs.Lists.{keep, first}
use Rattle.area_list.specs.Described.{described}
use Rattle.collect_source.specs.Source.{leads}
use Rattle.collect_source.proofs.first_leading.Given as goal

abbrev pub invariant-loop-i : goal.invariant-loop-i
invariant-loop-i l =
    let test = leads l.image l.wanted (described l.starts l.spans) in
    first (keep test (described (drop l.i l.starts) (drop l.i l.spans))) ≡ first (keep test (described l.starts l.spans))
