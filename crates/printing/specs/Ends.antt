-- The report of how the steps of a program end. Assumes nothing.
use Rattle.std.specs.Prelude.{◌≡◌, ℕ, List, Some, None, Result, Ok, Err}
use Rattle.refusal.specs.declared.Fault.{Fault}
use Rattle.text.specs.declared.pages.Page.{Page}
use Rattle.text.specs.Pages.{page_text}
use Rattle.report.specs.ReportSaid.{ReportSaid}
use Rattle.report.specs.Reports.{FaultShown}

-- r is the page, where nothing is refused; or else the fault, with its line of the two texts
abbrev pub ReportOf : (book order : List ℕ) → Result Page Fault → ReportSaid → Type 0
ReportOf book order (Ok page) r = (r.text ≡ page_text page) × (r.refused ≡ None)
ReportOf book order (Err f) r = FaultShown book order f r.text × (r.refused ≡ Some f.source)
