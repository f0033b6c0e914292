use Rattle.order.proofs.Spelling.{no_time}
use Rattle.order.proofs.reading.time_line.Goals as goal

pub returns-in_err-time : goal.returns-in_err-time
returns-in_err-time c = rw c.from_residual.ensures (no_time _ c.in_err-time.ensures)
