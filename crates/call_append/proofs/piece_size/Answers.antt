use Rattle.std.proofs.Common.{ap, ◌∙◌}
use Rattle.format.specs.BlockSize.{greatest_block}
use Rattle.area_pass.specs.Rows.{spans_at}
use Rattle.table_rows.specs.Parts.{lent}
use Rattle.write_sizes.specs.Cut.{shortest_of}
use Rattle.call_append.specs.Written.{shortest_bound, size_law}
use Rattle.call_append.proofs.piece_size.Goals as goal

pub greatest_block-requires : goal.greatest_block-requires
greatest_block-requires c =
    rw (c.shortest.ensures ∙ ap shortest_of (lent spans_at c.args.m.files c.args.tables.now)) (shortest_bound c.requires)

pub returns-clause-is : goal.returns-clause-is
returns-clause-is c = c.greatest_block.ensures ∙ ap greatest_block (c.shortest.ensures ∙ ap shortest_of (lent spans_at c.args.m.files c.args.tables.now))

pub returns-clause-within : goal.returns-clause-within
returns-clause-within c =
    let g = size_law c.requires in
    rw (c.greatest_block.ensures ∙ ap greatest_block (c.shortest.ensures ∙ ap shortest_of (lent spans_at c.args.m.files c.args.tables.now))) (g.some_bytes, g.at_most)
