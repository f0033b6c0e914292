use Rattle.std.proofs.Common.{sym, ap}
use Rattle.text.proofs.Appending.{appended_then, appended_same}
use Rattle.order.specs.Limits.{limit_name}
use Rattle.order.proofs.limits.Limit.put.Goals as goal

pub returns-in-Both : goal.returns-in-Both
returns-in-Both c = appended_same (sym (ap limit_name c.in-Both.is)) (appended_then c.put_time-in-Both.ensures (appended_then c.push.ensures c.put_grade-in-Both.ensures))
