use Rattle.std.proofs.Common.{◌+◌, length-drop, arith}
use Rattle.format_laws.specs.Bytes.{rest_part}
use Rattle.path_names.specs.Segments.{ended}
use Rattle.path_names.specs.Names.{segment_end}
use Rattle.path_names.proofs.segment_end.Goals as goal

pub overflow_add-result : goal.overflow_add-result
overflow_add-result c = omega (arith, rw rest_part at c.to_slash.ensures.within, length-drop c.args.from c.args.s.now)

pub returns : goal.returns
unfolding segment_end
returns c = ended c.args.s.now c.args.from (c.args.from + c.to_slash.result) (rw (c.to_slash.ensures.before, rest_part))
