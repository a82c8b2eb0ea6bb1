use Rattle.std.proofs.Common.{List, ℕ, sym, ap₂, ◌∙◌}
use Rattle.table_rows.specs.Parts.{lent}
use Rattle.mount_state.specs.State.{inode_ids_at, inode_spots_at, block_ids_at, block_spots_at}
use Rattle.collect_copies.specs.Copied.{tables_of, counts_in}
use Rattle.collect_copies.specs.Steps.{kind_block, kind_inode}
use Rattle.collect_copies.proofs.counts.Goals as goal

pub returns-then-is_block_at : goal.returns-then-is_block_at
returns-then-is_block_at c =
    let k = c.args.blocks in
    let t = c.args.tables.now in
    c.counts_in.ensures
    ∙ ap₂ (λ (a b : List ℕ). counts_in c.args.image.now (record { ids = a; spots = b }) c.args.p) (lent block_ids_at k t) (lent block_spots_at k t)
    ∙ kind_block c.args.image.now (tables_of c.args.inodes k t) c.args.p (sym c.is_block_at.ensures ∙ c.if-is_block_at.true)

pub returns : goal.returns
returns c =
    let n = c.args.inodes in
    let t = c.args.tables.now in
    c.counts_in-2.ensures
    ∙ ap₂ (λ (a b : List ℕ). counts_in c.args.image.now (record { ids = a; spots = b }) c.args.p) (lent inode_ids_at n t) (lent inode_spots_at n t)
    ∙ kind_inode c.args.image.now (tables_of n c.args.blocks t) c.args.p (sym c.is_block_at.ensures ∙ c.if-is_block_at.false)
