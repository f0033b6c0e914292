use Rattle.text.proofs.Appending.{appended_then}
use Rattle.report.proofs.orders.put_order.Goals as goal

pub returns : goal.returns
returns g c = appended_then (appended_then c.put.ensures (appended_then c.put-2.ensures c.push.ensures)) c.put_sheet.ensures
