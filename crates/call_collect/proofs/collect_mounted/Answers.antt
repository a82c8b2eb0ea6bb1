use Rattle.std.proofs.Common.{◌≡◌, ◌+◌, ◌-◌, subst, take, drop, length, length-take, ℕ, List, arith}
use Rattle.calls.specs.Attempt.{number_of}
use Rattle.calls.specs.Outcome.{outcome_of}
use Rattle.calls.specs.Collect.{source_of}
use Rattle.table_rows.specs.Parts.{lent}
use Rattle.area_list.specs.Described.{described}
use Rattle.area_pass.specs.Rows.{spans_at}
use Rattle.mount_state.specs.State.{starts_in, spans_in}
use Rattle.mount_state.specs.Bridge.{fit_lent}
use Rattle.mount_state.specs.declared.Mounted.{Mounted}
use Rattle.format.specs.Bytes.{Bytes}
use Rattle.collect_source.specs.Source.{area_at}
use Rattle.call_collect.specs.Mounted.{source_none, source_some}
use Rattle.call_collect.proofs.collect_mounted.Goals as goal

-- what was chosen
chosen : (image : Bytes) (m : Mounted) (t : List ℕ) (r : ℕ)
    → area_at (starts_in m t) (take (spans_at + m.files - spans_at) (drop spans_at t)) r
    ≡ source_of image (described (starts_in m t) (take (spans_at + m.files - spans_at) (drop spans_at t))) m.scratch
    → area_at (starts_in m t) (spans_in m t) r ≡ source_of image (described (starts_in m t) (spans_in m t)) m.scratch
chosen image m t r = subst (λ (y : List ℕ). area_at (starts_in m t) y r ≡ source_of image (described (starts_in m t) y) m.scratch) (lent spans_at m.files t)

pub choose_source-requires : goal.choose_source-requires
choose_source-requires c = fit_lent c.requires.safe

pub collect_from-requires-clause-source_lt_files : goal.collect_from-requires-clause-source_lt_files
collect_from-requires-clause-source_lt_files c =
    omega (arith, c.in-Some.ensures.within, length-take c.args.m.files c.args.tables.now)

pub returns-in_default : goal.returns-in_default
returns-in_default c =
    λ ds h p.
    source_none h c.requires.safe (length (starts_in c.args.m c.args.tables.now)) (chosen c.args.image.now c.args.m c.args.tables.now _ c.in_default.ensures.is)
    (omega (arith, length-take c.args.m.files c.args.tables.now, c.requires.safe.long, c.requires.safe.files_few))

pub returns : goal.returns
returns c =
    λ ds h p.
    let e = c.collect_from.ensures ds h p in
    source_some h c.requires.safe c.in-Some.source (chosen c.args.image.now c.args.m c.args.tables.now _ c.in-Some.ensures.is)
    (omega (arith, c.in-Some.ensures.within, length-take c.args.m.files c.args.tables.now)) (number_of (outcome_of c.collect_from.result)) _ e.0 e.1
