use Rattle.std.proofs.Common.{refl, ap, ◌∙◌, arith}
use Rattle.std.proofs.lemmas.Result.{err_from_is_err_and}
use Rattle.table_rows.specs.Answer.{meant}
use Rattle.calls.specs.Outcome.{code}
use Rattle.mount.specs.Filling.{fresh_ready, fresh_room, fresh_indexed, fresh_twins, fill_refused, fill_rootless, fill_passes}
use Rattle.mount.proofs.fill_tables.Goals as goal

pub gather-requires-clause-ready : goal.gather-requires-clause-ready
gather-requires-clause-ready c = fresh_ready c.args.image.now c.args.places.now c.args.n c.args.rows.now c.requires

pub gather-requires-clause-room : goal.gather-requires-clause-room
gather-requires-clause-room c = fresh_room c.args.image.now c.args.places.now c.args.n c.args.rows.now c.requires

pub gather-requires-clause-indexed : goal.gather-requires-clause-indexed
gather-requires-clause-indexed c = fresh_indexed c.args.image.now c.args.places.now c.args.n c.args.rows.now c.requires

pub gather-requires-clause-no_twins : goal.gather-requires-clause-no_twins
gather-requires-clause-no_twins c = fresh_twins c.args.image.now c.args.places.now c.args.n c.args.rows.now c.requires

pub returns-in_err-gather : goal.returns-in_err-gather
returns-in_err-gather c =
    let p = err_from_is_err_and c.from_residual.result c.from_residual.ensures.1 in
    let g = c.gather.auto in
    rw (p.1, p.2) (fill_refused c.args.image.now c.args.places.now c.args.n c.args.rows.now (code c.in_err-gather.field-0.0)
    c.gather.new.iwords c.gather.new.bwords c.gather.new.rows c.in_err-gather.ensures
    (record { inodes = omega (arith, g.iwords); blocks = omega (arith, g.bwords); both = g.rows ∙ c.requires.long }) c.in_err-gather.field-0.0 refl)

pub returns-in_default : goal.returns-in_default
returns-in_default c =
    let g = c.gather.auto in
    fill_rootless c.args.image.now c.args.places.now c.args.n c.args.rows.now 0
    c.gather.new.iwords c.gather.new.bwords c.gather.new.rows c.in_ok-gather.ensures
    (record { inodes = omega (arith, g.iwords); blocks = omega (arith, g.bwords); both = g.rows ∙ c.requires.long }) refl
    c.taken-inodes.result c.taken-blocks.result c.taken-inodes.ensures.counted c.taken-blocks.ensures.counted
    c.find.result c.find.ensures (ap meant c.in_default.is)

pub returns : goal.returns
returns c =
    let g = c.gather.auto in
    fill_passes c.args.image.now c.args.places.now c.args.n c.args.rows.now 0
    c.gather.new.iwords c.gather.new.bwords c.gather.new.rows c.in_ok-gather.ensures
    (record { inodes = omega (arith, g.iwords); blocks = omega (arith, g.bwords); both = g.rows ∙ c.requires.long }) refl
    c.taken-inodes.result c.taken-blocks.result c.taken-inodes.ensures.counted c.taken-blocks.ensures.counted
    c.find.result c.find.ensures c.in-Some.field-0 (ap meant c.in-Some.is)
