use Rattle.std.proofs.Common.{◌≡◌, length, sym, ◌∙◌, eq-eqb, ne_eqb, arith}
use Rattle.format_laws.specs.Tests.{via}
use Rattle.area_list.specs.Good.{fits}
use Rattle.area_read.specs.Kinds.{id_of, kind_invalid, kind_scratch, kind_file}
use Rattle.area_read.proofs.area_kind.Goals as goal

pub returns-then-not-valid_area : goal.returns-then-not-valid_area
returns-then-not-valid_area c = kind_invalid c.args.image.now c.args.area (via c.valid_area.ensures c.if-not-valid_area.true)

pub area_id-requires : goal.area_id-requires
area_id-requires c = let f = fits (length c.args.image.now) c.args.area c.requires in omega arith

-- the area holds its header, and so its id
pub returns-then-area_id : goal.returns-then-area_id
returns-then-area_id c =
    let area = c.args.area in
    let f = (fits (length c.args.image.now) area c.requires).long in
    let i : c.area_id.result ≡ id_of c.args.image.now area = c.area_id.ensures.is c.args.area.length (omega arith) in
    kind_scratch c.args.image.now area (via c.valid_area.ensures c.if-not-valid_area.false) (eq-eqb _ _ (sym i ∙ c.if-area_id.true))

pub returns : goal.returns
returns c =
    let area = c.args.area in
    let f = (fits (length c.args.image.now) area c.requires).long in
    let i : c.area_id.result ≡ id_of c.args.image.now area = c.area_id.ensures.is c.args.area.length (omega arith) in
    kind_file c.args.image.now area (via c.valid_area.ensures c.if-not-valid_area.false) (ne_eqb _ _ (λ e. c.if-area_id.false (i ∙ e)))
