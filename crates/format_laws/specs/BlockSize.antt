-- The greatest block of writers: why it is what it is, and all that callers use of it.
use Rattle.std.specs.Prelude.{ℕ, ◌+◌, ◌*◌, ◌≤◌, ◌<◌}
use Rattle.std.proofs.Common.{arith}
use Rattle.format.specs.Record.{block, longest_data}
use Rattle.format.specs.AreaHeader.{area_header_size}
use Rattle.format.specs.BlockSize.{greatest_block}

-- an area of the length has room behind its header for the records of two blocks of n bytes, each `block_size` long (Encoding)
abbrev pub TwoFit : ℕ → ℕ → Type 0
TwoFit length n = area_header_size + 2 * (block.header_size + n) ≤ length

-- T-03: "two greatest blocks must fit in the smallest area"
pub record TwoGreatest (shortest : ℕ) : Type 0 where
  pub two_fit : TwoFit shortest (greatest_block shortest)
  -- two of one byte more would not, unless that is more than a block may hold
  pub no_more : greatest_block shortest < longest_data → ¬ TwoFit shortest (greatest_block shortest + 1)
  -- "at most 2,048"
  pub at_most : greatest_block shortest ≤ longest_data
  -- so data can be cut into such blocks
  pub some_bytes : 1 ≤ greatest_block shortest

pub two_greatest : (shortest : ℕ) → 128 ≤ shortest → TwoGreatest shortest
unfolding greatest_block
two_greatest shortest h = record {
  two_fit = omega arith;
  no_more = λ l t. omega arith;
  at_most = omega arith;
  some_bytes = omega arith;
}
