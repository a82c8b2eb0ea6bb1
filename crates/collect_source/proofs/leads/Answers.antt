use Rattle.std.proofs.Common.{◌∙◌, ne_eqb}
use Rattle.collect_source.specs.Source.{leads_not, leads_if}
use Rattle.collect_source.proofs.leads.Goals as goal

pub returns-then-span-wanted : goal.returns-then-span-wanted
returns-then-span-wanted c =
    c.none_ahead.ensures
    ∙ rw (c.area_count.ensures.is c.args.span c.requires.area_header_size_in_bounds.1)
    (leads_if c.args.image.now c.args.wanted _ _ c.if-span-wanted.true)

pub returns-else-span-wanted : goal.returns-else-span-wanted
returns-else-span-wanted c = ne_eqb c.args.span c.args.wanted c.if-span-wanted.false ∙ leads_not _ _ _ _ c.if-span-wanted.false
