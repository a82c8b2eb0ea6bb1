-- A directory calls its entries with one level less, and an entry its directory with the same levels. So the measures are twice the levels, and one
-- more for an entry.
use Prim.Native.Nat.{◌+◌}
use Rattle.tree_show.specs.Walk.{Walking}
use Rattle.tree_show.proofs.+show_directory_show_entry.Given as goal

abbrev pub decreases-show_directory : goal.decreases-show_directory
decreases-show_directory l = l.levels + l.levels

abbrev pub decreases-show_entry : goal.decreases-show_entry
decreases-show_entry l = l.levels + l.levels + 1

abbrev pub invariant-show_directory-loop-p : goal.invariant-show_directory-loop-p
invariant-show_directory-loop-p l = Walking l.rows.image.now l.rows.ids.now l.rows.spots.now l.order l.directory l.levels l.initial.text l.initial.c l.text l.c l.p-index
