use Rattle.std.proofs.Common.{◌≡◌, drop}
use Rattle.volume.specs.Lists.{all}
use Rattle.area_list.specs.Described.{described}
use Rattle.area_kinds.specs.Kinds.{other_id}
use Rattle.area_kinds.proofs.GoodAreas.no_id.Given as goal

abbrev pub invariant-loop-start : goal.invariant-loop-start
invariant-loop-start l =
    let s = l.self in
    all (other_id s.image.now l.id) (described (drop l.start-index s.starts.now) (drop l.start-index s.spans.now)) ≡ all (other_id s.image.now l.id) (described s.starts.now s.spans.now)
