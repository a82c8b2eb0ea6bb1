-- A call that goes on with the list cut to one entry more than is good answers what it answers of the whole list.
use Prim.Native.Nat.{ℕ}
use mathlib.Core.Path.{◌≡◌, ap, ◌∙◌}
use mathlib.Core.List.{List}
use lib.ListN.{take}
use Rattle.calls.specs.declared.Descriptor.{Descriptor}
use Rattle.area_list.specs.Numbers.{area_list}
use Rattle.area_structs.specs.Entries.{most_entries}

-- r is what F answers of the numbers ns, which stand for the front of ds, of which F answers the same as of all of ds
pub forwarded : {X : Type 0} {r : X} (F : List Descriptor → X) (ns : List ℕ) (ds : List Descriptor)
    → r ≡ F (area_list ns) → area_list ns ≡ take most_entries ds → F (take most_entries ds) ≡ F ds → r ≡ F ds
forwarded F ns ds told cut whole = told ∙ ap F cut ∙ whole
