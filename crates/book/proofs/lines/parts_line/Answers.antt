use Rattle.book.proofs.Spelling.{no_parts}
use Rattle.book.proofs.lines.parts_line.Goals as goal

pub returns-in_err-k : goal.returns-in_err-k
returns-in_err-k c = rw c.from_residual.ensures (no_parts _ c.in_err-k.ensures)
