-- Every byte passes the test that the definition makes of each.
use Rattle.std.proofs.Common.{◌≡◌, refl, ap, ◌∙◌, ℕ, Bool, not, ◌&&◌, eqb, [], ◌∷◌, rules, tests}
use Rattle.std.specs.List.{list_all}
use Rattle.std.proofs.lemmas.Iterator.{YieldsList-from_slice}
use Rattle.std.proofs.lemmas.Iterator.Search.{all_from_yields_List}
use Rattle.format.specs.Bytes.{Bytes}
use Rattle.format.specs.Record.{name_good}
use Rattle.record_read.proofs.name_good.Goals as goal

abbrev good : ℕ → Bool
good b = not (eqb b 0) && not (eqb b 0x2f)

all_good : (s : Bytes) → list_all good s ≡ name_good s
unfolding name_good
all_good [] = refl
all_good (b ∷ s) = ap (λ (t : Bool). good b && t) (all_good s)

pub returns : goal.returns
returns c =
    let s = c.args.s.now in
    all_from_yields_List good _ _ _ c.all.ensures.ran (YieldsList-from_slice s cc) (λ x b q k. search (rules, tests)) ∙ all_good s
