use Rattle.answers.proofs.Stating.{no_quote}
use Rattle.answers.proofs.lines.quote_line.Goals as goal

pub returns-in_err-limit : goal.returns-in_err-limit
returns-in_err-limit g c = rw c.from_residual.ensures (no_quote g.S.Figures.notation c.in_err-limit.ensures)
