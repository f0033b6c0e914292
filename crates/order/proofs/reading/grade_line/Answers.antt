use Rattle.order.proofs.Spelling.{no_grade}
use Rattle.order.proofs.reading.grade_line.Goals as goal

pub returns-in_err-grade : goal.returns-in_err-grade
returns-in_err-grade c = rw c.from_residual.ensures (no_grade _ c.in_err-grade.ensures)
