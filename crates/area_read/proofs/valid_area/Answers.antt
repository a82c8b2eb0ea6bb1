use Rattle.std.proofs.Common.{◌≡◌, ◌-◌, length, length-take, length-drop, arith}
use Rattle.area_list.specs.Good.{fits}
use Rattle.area_read.proofs.valid_area.Goals as goal

pub slice_bounds-valid_header-end : goal.slice_bounds-valid_header-end
slice_bounds-valid_header-end c =
    let f = fits (length c.args.image.now) c.args.area c.requires in
    omega arith

pub valid_header-requires : goal.valid_header-requires
valid_header-requires c =
    let f = fits (length c.args.image.now) c.args.area c.requires in
    simp (length-take, length-drop) (omega arith)

pub returns : goal.returns
returns c =
    let e : c.area_end-end.result - c.args.area.offset ≡ c.args.area.length = omega arith in
    rw e at c.valid_header.ensures
