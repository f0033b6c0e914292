use Rattle.answers.proofs.Stating.{no_prune}
use Rattle.answers.proofs.lines.prune_line.Goals as goal

pub returns-in_err-limit : goal.returns-in_err-limit
returns-in_err-limit g c = rw c.from_residual.ensures (no_prune g.S.Figures.notation c.in_err-limit.ensures)
