use Rattle.std.proofs.Common.{◌∙◌, ne_eqb}
use Rattle.collect_source.specs.Source.{other_length, same_length}
use Rattle.collect_source.proofs.is_ahead.Goals as goal

pub returns-then-span-wanted : goal.returns-then-span-wanted
returns-then-span-wanted c =
    c.precedes.ensures
    ∙ rw (c.area_count.ensures.is c.args.span c.requires.1)
    (same_length c.args.image.now c.args.wanted _ c.args.count c.if-span-wanted.true)

pub returns-else-span-wanted : goal.returns-else-span-wanted
returns-else-span-wanted c = ne_eqb c.args.span c.args.wanted c.if-span-wanted.false ∙ other_length _ _ _ _ c.if-span-wanted.false
