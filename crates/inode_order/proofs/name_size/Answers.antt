-- The size stands in the header.
use Rattle.std.proofs.Common.{◌∙◌, arith}
use Rattle.record_places.specs.Laws.{size_least}
use Rattle.inode_order.proofs.Names.{name_told, name_inside}
use Rattle.inode_order.proofs.name_size.Goals as goal

pub bounds-image-p : goal.bounds-image-p
bounds-image-p c = omega (arith, size_least c.args.image.now c.args.p)

pub returns-clause-is : goal.returns-clause-is
returns-clause-is c = c.from.ensures ∙ name_told c.args.image.now c.args.p c.requires

pub returns-clause-inside : goal.returns-clause-inside
returns-clause-inside c =
    omega (arith, c.from.ensures, name_told c.args.image.now c.args.p c.requires, name_inside c.args.image.now c.args.p c.requires.0)
