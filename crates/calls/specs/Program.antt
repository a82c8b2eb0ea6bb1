-- The program. Document 01, "Measured on the bench", and T-06: "standard input, cut into areas of 4,096", 2 to 16 of them, "no rest; else
-- `mount 1`".
use Rattle.std.specs.Prelude.{ℕ, zero, suc, ◌+◌, ◌/◌, ◌%◌, List, [], ◌∷◌, Bool, cond, ◌&&◌, length, eqb, leb}
use Rattle.format.specs.Bytes.{Bytes}
use Rattle.calls.specs.Areas.{most_areas}
use Rattle.calls.specs.Report.{refused_report, report_of}
use Rattle.calls.specs.Attempt.{Attempt, refuses}
use Rattle.calls.specs.Tree.{attempt_tree}
use Rattle.calls.specs.declared.Descriptor.{Descriptor}
use Rattle.calls.specs.declared.Report.{Report}

abbrev pub program_area : ℕ
program_area = 4096

-- k areas one after the other, from an offset on
unfoldable pub cut_areas : ℕ → ℕ → List Descriptor
cut_areas zero at = []
cut_areas (suc k) at = record { offset = at; length = program_area } ∷ cut_areas k (at + program_area)

unfoldable pub whole_areas : ℕ → Bool
whole_areas n = eqb (n % program_area) 0 && leb 2 (n / program_area) && leb (n / program_area) most_areas

-- what the program reports of its input
unfoldable pub program_report : Bytes → Report
program_report input = cond (whole_areas (length input)) (report_of input (cut_areas (length input / program_area) 0)) (refused_report 1)

-- T-07: "The lines come after the two lines of document 01"
unfoldable pub program_tree : Bytes → Attempt Bytes
program_tree input = cond (whole_areas (length input)) (attempt_tree input (cut_areas (length input / program_area) 0)) (refuses 1)
