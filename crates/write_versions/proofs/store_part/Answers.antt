use Rattle.std.proofs.Common.{◌-◌, arith}
use Rattle.image_laws.specs.Laws.{part_length}
use Rattle.write_versions.specs.Held.{held_meets}
use Rattle.write_versions.proofs.store_part.Goals as goal

-- what the block holds of the range begins and ends in both
pub overflow_sub-last : goal.overflow_sub-last
overflow_sub-last c =
    let meet = held_meets c.args.range.from c.args.range.to c.args.s c.args.n c.requires.to_value.1 in
    omega arith

pub slice_bounds-store_version-start : goal.slice_bounds-store_version-start
slice_bounds-store_version-start c =
    let meet = held_meets c.args.range.from c.args.range.to c.args.s c.args.n c.requires.to_value.1 in
    omega arith

pub slice_bounds-store_version-count : goal.slice_bounds-store_version-count
slice_bounds-store_version-count c =
    let meet = held_meets c.args.range.from c.args.range.to c.args.s c.args.n c.requires.to_value.1 in
    omega (arith, c.requires.to_value.0)

pub store_version-requires : goal.store_version-requires
store_version-requires c =
    let begin = c.begin_in-begin.result - c.args.range.from in
    let meet = held_meets c.args.range.from c.args.range.to c.args.s c.args.n c.requires.to_value.1 in
    let long = part_length c.args.text.now begin (c.end_in.result - c.args.range.from - begin) (omega (arith, c.requires.to_value.0)) in
    (c.requires.n_in_bounds.0, c.requires.n_in_bounds.1, omega (arith, long))
