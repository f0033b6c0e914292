use Rattle.text.proofs.Appending.{appended_then}
use Rattle.order.proofs.limits.put_time.Goals as goal

pub returns : goal.returns
returns c = appended_then c.put.ensures c.number.ensures.text
