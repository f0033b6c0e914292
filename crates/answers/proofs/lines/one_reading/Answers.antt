use Rattle.answers.proofs.Stating.{one_reading}
use Rattle.answers.proofs.lines.one_reading.Goals as goal

pub returns : goal.returns
returns g c = one_reading g.S.Figures.notation
