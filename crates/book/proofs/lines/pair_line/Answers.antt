use Rattle.book.proofs.Spelling.{no_pair}
use Rattle.book.proofs.lines.pair_line.Goals as goal

pub returns-in_err-part : goal.returns-in_err-part
returns-in_err-part c = rw c.from_residual.ensures (no_pair _ c.in_err-part.ensures)
