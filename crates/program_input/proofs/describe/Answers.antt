use Rattle.std.proofs.Common.{◌≡◌, ◌∙◌, ap, ℕ, ◌+◌, ◌*◌, List, refl, arith}
use Rattle.std.proofs.Math.ListN.{set}
use Rattle.area_list.specs.Numbers.{area_list}
use Rattle.program_input.specs.Cut.{flat, describe_more, describe_done}
use Rattle.program_input.proofs.describe.Goals as goal

pub loop-i-init : goal.loop-i-init
unfolding flat
loop-i-init c = refl

pub loop-i-preserved : goal.loop-i-preserved
loop-i-preserved c =
    let i = c.loop-i.i in
    ap (λ (x : List ℕ). set (set x (i * 2) (i * 4096)) (i * 2 + 1) 4096) c.loop-i.invariant
    ∙ describe_more i (i * 4096) 4096 (omega (arith, c.loop-i-test.true, c.requires)) refl refl

pub returns : goal.returns
returns c =
    let e : c.args.count ≡ c.loop-i.i = omega arith in
    ap area_list c.loop-i.invariant ∙ rw e (describe_done c.loop-i.i (omega (arith, c.requires)))
