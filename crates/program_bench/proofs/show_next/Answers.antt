-- A record found lies in the area.
use Rattle.std.proofs.Common.{arith}
use Rattle.area_read.specs.Laws.{next_law}
use Rattle.program_bench.proofs.show_next.Goals as goal

pub overflow_add-result : goal.overflow_add-result
overflow_add-result c =
    let n = next_law c.args.area.now c.args.at c.in-Some.next c.requires c.in-Some.ensures in
    omega arith

pub returns : goal.returns
returns c = (next_law c.args.area.now c.args.at c.in-Some.next c.requires c.in-Some.ensures).room
