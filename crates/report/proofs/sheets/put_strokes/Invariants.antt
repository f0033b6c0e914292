use Rattle.std.proofs.Common.{◌-◌}
use Rattle.text.specs.Pages.{Appended}
use Rattle.report.specs.Sheets.{open_letters}
use Rattle.report.proofs.sheets.put_strokes.Given as goal

abbrev pub invariant-loop-stroke : goal.invariant-loop-stroke
invariant-loop-stroke g l = Appended l.initial.page (open_letters (g.S.Sheet.shown l.sheet) l.place (l.stroke - 65)) l.page
