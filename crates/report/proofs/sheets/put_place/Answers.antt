use Rattle.text.proofs.Appending.{appended_then}
use Rattle.report.proofs.sheets.put_place.Goals as goal

pub returns : goal.returns
returns g c = appended_then c.number.ensures.text (appended_then c.push.ensures (appended_then c.put_strokes.ensures c.push-2.ensures))
