use Rattle.std.proofs.Common.{◌≡◌, refl, sym, subst, ◌∙◌, ℕ, Bool, true, false, List, length, arith}
use Rattle.record_places.specs.Place.{AllLie}
use Rattle.format_laws.specs.Tests.{via}
use Rattle.collect_stores.specs.Moved.{Removable}
use Rattle.collect_stores.specs.Fits.{fits}
use Rattle.call_collect.specs.Mounted.{copies_of, file_at, copies_lent, area_copies_lie, area_removable, area_fits, area_collected}
use Rattle.call_collect.proofs.collect_from.Goals as goal

pub list_copies-k-requires : goal.list_copies-k-requires
list_copies-k-requires c = copies_lent c.requires.safe c.requires.safe_places _ refl

pub fits-requires-clause-all_lie : goal.fits-requires-clause-all_lie
fits-requires-clause-all_lie c =
    subst (λ (ps : List ℕ). AllLie c.args.image.now ps (length ps)) (sym c.list_copies-k.ensures.1) (area_copies_lie c.requires.safe c.requires.safe_places c.args.source)

pub fits-requires-clause-area_header_size_le_length : goal.fits-requires-clause-area_header_size_le_length
fits-requires-clause-area_header_size_le_length c = omega (arith, c.requires.safe.scratch.long)

pub returns-then-not-fits : goal.returns-then-not-fits
returns-then-not-fits c =
    λ ds h p.
    let tested : c.fits.result ≡ fits c.args.image.now c.args.m.scratch (copies_of c.args.image.now c.args.m c.args.tables.now c.args.places.now (file_at c.args.tables.now c.args.source))
    = rw c.list_copies-k.ensures.1 at c.fits.ensures in
    let e : ◌≡◌ {A = Bool} false true
    = sym (via tested c.if-not-fits.true) ∙ area_fits h c.requires.safe c.args.places.now p c.args.source c.requires.source_lt_files in
    let z : ◌≡◌ {A = ℕ} 0 1 = cc in
    absurd (omega arith)

pub move_records-requires : goal.move_records-requires
move_records-requires c =
    let tested : c.fits.result ≡ fits c.args.image.now c.args.m.scratch (copies_of c.args.image.now c.args.m c.args.tables.now c.args.places.now (file_at c.args.tables.now c.args.source))
    = rw c.list_copies-k.ensures.1 at c.fits.ensures in
    subst (λ (ps : List ℕ). Removable c.args.image.now c.args.m.scratch (file_at c.args.tables.now c.args.source) ps) (sym c.list_copies-k.ensures.1)
    (area_removable c.requires.safe c.requires.safe_places c.args.source c.requires.source_lt_files (via tested c.if-not-fits.false))

pub returns : goal.returns
returns c =
    λ ds h p. (
      refl,
      (rw c.list_copies-k.ensures.1 at c.move_records.ensures) ∙ area_collected h c.requires.safe c.args.places.now p c.args.source c.requires.source_lt_files,
    )
