use Rattle.std.proofs.Common.{◌∙◌, ℕ, eqb, rules, tests}
use Rattle.std.proofs.lemmas.Iterator.{YieldsList-from_slice}
use Rattle.std.proofs.lemmas.Iterator.Adapters.{position_from-zero}
use Rattle.std.proofs.lemmas.Iterator.Search.{position_from_yields_List}
use Rattle.path_names.specs.Segments.{to_slash_is, slash_within}
use Rattle.path_names.proofs.to_slash.Goals as goal

pub returns : goal.returns
returns c =
    let p = λ (b : ℕ). eqb b 47 in
    let found = position_from_yields_List p _ _ _ c.position.ensures.ran (YieldsList-from_slice c.args.s.now cc) (λ x b q k. search (rules, tests)) in
    let e = c.unwrap_or.ensures ∙ rw (found, position_from-zero p c.args.s.now) (to_slash_is c.args.s.now) in
    record { before = e; within = rw e (slash_within c.args.s.now) }
