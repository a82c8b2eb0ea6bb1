use Rattle.std.proofs.Common.{sym, ◌∙◌, arith}
use Rattle.volume.specs.Tree.{is_child}
use Rattle.record_places.specs.Place.{by_place}
use Rattle.file_blocks.specs.Rows.{search_here, search_later, search_end}
use Rattle.path_walk.proofs.next_child.Goals as goal

pub returns-then-is_child-clause-first : goal.returns-then-is_child-clause-first
returns-then-is_child-clause-first c =
    λ v rows.
    let e = search_here (is_child (by_place c.args.rows.now.image.now) v c.args.directory c.args.name.now) c.args.rows.now.ids.now c.loop-row.row c.loop-row-test.true (sym (c.is_child.ensures v rows) ∙ c.if-is_child.true) in
    let i = c.loop-row.invariant v rows in
    omega arith

pub loop-row-preserved : goal.loop-row-preserved
loop-row-preserved c =
    λ v rows.
    let e = search_later (is_child (by_place c.args.rows.now.image.now) v c.args.directory c.args.name.now) c.args.rows.now.ids.now c.loop-row.row c.loop-row-test.true (sym (c.is_child.ensures v rows) ∙ c.if-is_child.false) in
    let i = c.loop-row.invariant v rows in
    omega arith

pub returns-clause-first : goal.returns-clause-first
returns-clause-first c =
    λ v rows.
    let e = search_end (is_child (by_place c.args.rows.now.image.now) v c.args.directory c.args.name.now) c.args.rows.now.ids.now c.loop-row.row c.loop-row-test.false in
    let i = c.loop-row.invariant v rows in
    let b = c.loop-row.auto.row-end c.requires.from_in_bounds in
    omega (arith, c.loop-row-test.false)
