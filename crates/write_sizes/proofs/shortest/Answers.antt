use Rattle.std.proofs.Common.{◌≡◌, ◌∙◌, ap, sym, min}
use Rattle.std.specs.List.{reduce}
use Rattle.std.specs.Option.{unwrap_or}
use Rattle.std.proofs.lemmas.Iterator.{YieldsList-from_slice}
use Rattle.std.proofs.lemmas.Iterator.Adapters.{option_map_id}
use Rattle.std.proofs.lemmas.Iterator.Consumers.{YieldsList-from_copied, min_from_yields_List}
use Rattle.write_sizes.specs.Cut.{shortest_reduced}
use Rattle.write_sizes.proofs.shortest.Goals as goal

pub returns : goal.returns
returns c =
    let spans = c.args.spans.now in
    let least : c.min.result ≡ reduce min spans =
    sym (option_map_id c.min.result) ∙ min_from_yields_List _ c.min.result c.min.ensures.ran (YieldsList-from_copied (YieldsList-from_slice spans cc)) in
    c.unwrap_or.ensures ∙ ap (λ o. unwrap_or o 0) least ∙ shortest_reduced spans
