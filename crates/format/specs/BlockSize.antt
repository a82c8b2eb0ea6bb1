-- The greatest block size of writers, by the shortest file area's length. T-03: "half of (length less 24), rounded down, less 24, at most 2,048".
use Rattle.std.specs.Prelude.{ℕ, min, ◌-◌, ◌/◌}
use Rattle.format.specs.Record.{block, longest_data}
use Rattle.format.specs.AreaHeader.{area_header_size}

unfoldable pub greatest_block : ℕ → ℕ
greatest_block shortest = min longest_data ((shortest - area_header_size) / 2 - block.header_size)
