-- The last of the four bytes leaves no place or one, which has a magic or not.
use Rattle.std.proofs.Common.{◌≡◌, ℕ, ◌+◌, ◌<◌, Bool, true, false, sym, refl, MatchOption}
use Rattle.std.specs.Bool.{then_some}
use Rattle.format.specs.Bytes.{Bytes, byte_at}
use Rattle.format_laws.specs.Crc.{Octets}
use Rattle.record_magics.specs.Magic.{start_of, in_magic, magic_at, Passed}
use Rattle.record_magics.specs.Laws.{before_start, none_in_four, four_passed}
use Rattle.record_magics.proofs.magic_in_four.Goals as goal

decided : (area : Bytes) → Octets area → (at i : ℕ) → (i ≡ start_of (byte_at area (at + 3))) × (i < 4) → (m : Bool) → m ≡ magic_at area (at + i)
    → MatchOption (then_some m i) (Passed area at 4) (λ i. (i < 4) × Passed area at i)
decided area o at i s true m = (s.1, before_start area o at i s.0 s.1)
decided area o at i s false m = none_in_four area o at i s.0 (sym m)

pub returns-then-not-marked : goal.returns-then-not-marked
returns-then-not-marked c = four_passed c.args.area.now (record { at = λ i h. (c.type_inv.area i).fits }) c.args.at (sym c.if-not-marked.ensures)

pub returns-in_err-i : goal.returns-in_err-i
unfolding in_magic
returns-in_err-i c =
    rw c.from_residual.ensures
    (four_passed c.args.area.now (record { at = λ i h. (c.type_inv.area i).fits }) c.args.at (rw c.in_err-i.ensures refl))

pub returns : goal.returns
returns c =
    rw c.then_some.ensures
    (decided c.args.area.now (record { at = λ i h. (c.type_inv.area i).fits }) c.args.at c.in_ok-i.i c.in_ok-i.ensures c.magic_at.result c.magic_at.ensures)
