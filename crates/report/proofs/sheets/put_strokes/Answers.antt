use Rattle.std.proofs.Common.{◌≡◌, ◌-◌, ap, arith}
use Rattle.text.proofs.Appending.{appended_none, appended_then, appended_same}
use Rattle.report.specs.Sheets.{open_letters}
use Rattle.report.proofs.Listing.{next_stroke}
use Rattle.report.proofs.sheets.put_strokes.Goals as goal

pub loop-stroke-init : goal.loop-stroke-init
loop-stroke-init g c = appended_none c.args.page.now

pub loop-stroke-preserved : goal.loop-stroke-preserved
loop-stroke-preserved g c = appended_same (next_stroke (g.S.Sheet.shown c.args.sheet.now) c.args.place c.loop-stroke.stroke (omega arith)) (appended_then c.loop-stroke.invariant c.put_stroke.ensures)

pub returns : goal.returns
returns g c =
    let all : c.loop-stroke.stroke - 65 ≡ 26 = omega arith in
    appended_same (ap (open_letters (g.S.Sheet.shown c.args.sheet.now) c.args.place) all) c.loop-stroke.invariant
