use Rattle.std.proofs.Common.{length, sym, ◌∙◌, arith}
use Rattle.area_list.specs.Good.{fits}
use Rattle.area_read.specs.declared.AreaKind.TheVariants.{File, Scratch, Invalid}
use Rattle.call_area_report.specs.Header.{says}
use Rattle.call_area_report.proofs.header_of.Goals as goal

-- a good area is longer than its header
pub area_id-requires : goal.area_id-requires
area_id-requires c = let f = fits (length c.args.image.now) c.args.area c.requires in omega arith

pub area_count-requires : goal.area_count-requires
area_count-requires c = let f = fits (length c.args.image.now) c.args.area c.requires in omega arith

pub returns-in-File : goal.returns-in-File
returns-in-File c =
    let area = c.args.area in
    let f = (fits (length c.args.image.now) area c.requires).long in
    let i = c.area_id.ensures.is c.args.area.length (omega arith) in
    let n = c.area_count.ensures.is c.args.area.length (omega arith) in
    says c.args.image.now area File (sym c.area_kind-kind.ensures ∙ c.in-File.is) c.from-id.result c.from-count.result (omega arith) (omega arith)

pub returns-in-Scratch : goal.returns-in-Scratch
returns-in-Scratch c =
    let area = c.args.area in
    let f = (fits (length c.args.image.now) area c.requires).long in
    let i = c.area_id.ensures.is c.args.area.length (omega arith) in
    let n = c.area_count.ensures.is c.args.area.length (omega arith) in
    says c.args.image.now area Scratch (sym c.area_kind-kind.ensures ∙ c.in-Scratch.is) c.from-id.result c.from-count.result (omega arith) (omega arith)

pub returns-in-Invalid : goal.returns-in-Invalid
returns-in-Invalid c =
    let area = c.args.area in
    let f = (fits (length c.args.image.now) area c.requires).long in
    let i = c.area_id.ensures.is c.args.area.length (omega arith) in
    let n = c.area_count.ensures.is c.args.area.length (omega arith) in
    says c.args.image.now area Invalid (sym c.area_kind-kind.ensures ∙ c.in-Invalid.is) c.from-id.result c.from-count.result (omega arith) (omega arith)
