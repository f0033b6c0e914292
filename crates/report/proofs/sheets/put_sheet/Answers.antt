use Rattle.std.proofs.Common.{◌≡◌, ◌+◌, ◌-◌, ap, ◌∙◌, arith}
use Rattle.text.proofs.Appending.{appended_none, appended_then, appended_same}
use Rattle.report.specs.Sheets.{sheet_text}
use Rattle.report.proofs.Listing.{next_place}
use Rattle.report.proofs.sheets.put_sheet.Goals as goal

pub loop-place-init : goal.loop-place-init
loop-place-init g c = (omega arith, appended_none c.args.page.now)

pub put_place-requires : goal.put_place-requires
put_place-requires g c = omega (arith, g.S.Sheet.laws.few c.args.sheet.now)

pub loop-place-preserved : goal.loop-place-preserved
loop-place-preserved g c =
    let f = g.S.Sheet.shown c.args.sheet.now in
    let n = c.loop-place.place in
    let same : n ≡ n + 1 - 1 = omega arith in
    (omega arith, appended_same (next_place f n (omega arith) ∙ ap (sheet_text f) same) (appended_then c.loop-place.invariant.1 c.put_place.ensures))

pub returns : goal.returns
returns g c =
    let all : c.loop-place.place - 1 ≡ g.S.Sheet.places c.args.sheet.now = omega arith in
    appended_same (ap (sheet_text (g.S.Sheet.shown c.args.sheet.now)) all) c.loop-place.invariant.1

pub returns-2 : goal.returns-2
returns-2 g c =
    let f = g.S.Sheet.shown c.args.sheet.now in
    let all : c.loop-place.place ≡ g.S.Sheet.places c.args.sheet.now = omega arith in
    appended_same (next_place f c.loop-place.place (omega arith) ∙ ap (sheet_text f) all) (appended_then c.loop-place.invariant.1 c.put_place.ensures)
