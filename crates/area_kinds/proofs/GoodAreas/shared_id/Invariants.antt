use Rattle.std.proofs.Common.{◌≡◌, drop}
use Rattle.area_list.specs.Described.{described}
use Rattle.area_list.specs.Steps.{pairwise}
use Rattle.area_kinds.specs.Kinds.{own_id}
use Rattle.area_kinds.proofs.GoodAreas.shared_id.Given as goal

abbrev pub invariant-loop-i : goal.invariant-loop-i
invariant-loop-i l = pairwise (own_id l.self.image.now) (described (drop l.i l.self.starts.now) (drop l.i l.self.spans.now)) ≡ pairwise (own_id l.self.image.now) (described l.self.starts.now l.self.spans.now)
