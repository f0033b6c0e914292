use Rattle.std.proofs.Common.{◌+◌, ◌-◌, ◌≤◌}
use Rattle.text.specs.Pages.{Appended}
use Rattle.report.specs.Sheets.{sheet_text}
use Rattle.report.proofs.sheets.put_sheet.Given as goal

abbrev pub invariant-loop-place : goal.invariant-loop-place
invariant-loop-place g l = (l.place ≤ g.S.Sheet.places l.sheet + 1) × Appended l.initial.page (sheet_text (g.S.Sheet.shown l.sheet) (l.place - 1)) l.page
