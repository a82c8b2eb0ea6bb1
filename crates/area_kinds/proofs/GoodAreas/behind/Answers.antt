use Rattle.std.proofs.Common.{length}
use Rattle.format_laws.specs.Bytes.{rest_part}
use Rattle.area_list.specs.Good.{good_later}
use Rattle.area_kinds.proofs.GoodAreas.behind.Goals as goal

pub invariant_of-result : goal.invariant_of-result
invariant_of-result c =
    let s = c.args.self.now in
    record { good = rw (rest_part s.starts.now c.args.n, rest_part s.spans.now c.args.n) (good_later (length s.image.now) s.starts.now s.spans.now s.good c.args.n) }
