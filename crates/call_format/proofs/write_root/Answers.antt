use Rattle.std.proofs.Common.{◌≤◌, ◌∙◌, arith}
use Rattle.call_format.specs.Areas.{lent_fits, first_small, root_put}
use Rattle.call_format.proofs.write_root.Goals as goal

pub write_inode-requires-clause-name_in_bounds : goal.write_inode-requires-clause-name_in_bounds
write_inode-requires-clause-name_in_bounds c =
    let few : c.first_file-first.result ≤ 1 = rw c.first_file-first.ensures (first_small _ _) in
    let fits = lent_fits c.requires.lent c.first_file-first.result (omega (arith, c.requires.in_bounds)) in
    rw c.area_at-2.ensures (omega (arith, fits.long, fits.inside))

pub returns : goal.returns
returns c =
    c.write_inode.ensures
    ∙ rw (c.area_at-2.ensures, c.first_file-first.ensures, c.area_at.ensures)
    (root_put c.args.image.now c.args.pairs.now c.args.most c.requires.in_bounds)
