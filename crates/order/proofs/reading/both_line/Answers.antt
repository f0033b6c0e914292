use Rattle.order.proofs.Spelling.{no_both}
use Rattle.order.proofs.reading.both_line.Goals as goal

pub returns-in_err-time : goal.returns-in_err-time
returns-in_err-time c = rw c.from_residual.ensures (no_both _ c.in_err-time.ensures)
