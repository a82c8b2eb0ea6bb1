-- Sixteen places are passed over, or four up to a magic; at the end no place has room.
use Rattle.std.proofs.Common.{◌≡◌, ℕ, ◌+◌, ◌<◌, max, length, Bool, true, false, ltb, sym, refl, arith}
use borrow.Author.Tests.{ltb-true, ltb-false}
use Rattle.format.specs.Bytes.{Bytes}
use Rattle.record_magics.specs.Magic.{Onward}
use Rattle.record_magics.specs.Laws.{sixteen_passed, onward_more, onward_ends}
use Rattle.record_magics.proofs.next_magic.Goals as goal

at_end : (area : Bytes) (from to : ℕ) → Onward area from to → length area < to + 20 → Onward area from (max to (length area))
at_end area from to o h = go (ltb (length area) to) refl
  where
    go : (t : Bool) → ltb (length area) to ≡ t → Onward area from (max to (length area))
    go true e = let l = ltb-true (length area) to e in let m : max to (length area) ≡ to = omega arith in rw m o
    go false e =
        let l = ltb-false (length area) to e in
        let m : max to (length area) ≡ length area = omega arith in
        rw m (onward_ends area from to o (omega arith) h)

pub loop-at-preserved-then-clear_sixteen : goal.loop-at-preserved-then-clear_sixteen
loop-at-preserved-then-clear_sixteen c =
    let area = c.args.area.now in
    let at = c.loop-at.at in
    let passed = sixteen_passed area (record { at = λ i h. (c.type_inv.area i).fits }) at (sym c.if-clear_sixteen.ensures) in
    onward_more area c.args.from at c.loop-at.invariant 16 (omega arith) passed

pub returns : goal.returns
returns c = rw c.max.ensures (at_end c.args.area.now c.args.from c.loop-at.at c.loop-at.invariant (omega arith))
