-- What C sees of an outcome of the code: the number of refusal, 0 where there is none, and what is answered.
use Rattle.std.specs.Prelude.{ℕ, Result, Ok, Err}
use Rattle.calls.specs.Report.{refused_report}
use Rattle.calls.specs.AreaReport.{refused_area_report}
use Rattle.calls.specs.Outcome.{code}
use Rattle.calls.specs.declared.Refusal.{Refusal}
use Rattle.calls.specs.declared.BytesRead.{BytesRead}
use Rattle.calls.specs.declared.Report.{Report}
use Rattle.calls.specs.declared.AreaReport.{AreaReport}
use Rattle.calls.specs.declared.ReadAnswer.{ReadAnswer}
use Rattle.calls.specs.declared.TreeAnswer.{TreeAnswer}
use Rattle.calls.specs.declared.Created.{Created}

-- "A refused answer's other numbers are 0"
abbrev pub report_seen : Result Report Refusal → Report
report_seen (Ok a) = a
report_seen (Err r) = refused_report (code r)

abbrev pub area_report_seen : Result AreaReport Refusal → AreaReport
area_report_seen (Ok a) = a
area_report_seen (Err r) = refused_area_report (code r)

abbrev pub read_seen : Result BytesRead Refusal → ReadAnswer
read_seen (Ok b) = record { number = 0; given = b.given; headers = b.headers }
read_seen (Err r) = record { number = code r; given = 0; headers = 0 }

abbrev pub tree_seen : Result ℕ Refusal → TreeAnswer
tree_seen (Ok n) = record { number = 0; length = n }
tree_seen (Err r) = record { number = code r; length = 0 }

abbrev pub created_seen : Result ℕ Refusal → Created
created_seen (Ok i) = record { number = 0; id = i }
created_seen (Err r) = record { number = code r; id = 0 }
