use Rattle.answers.proofs.Lining.{one_lining}
use Rattle.answers.proofs.texts.one_lining.Goals as goal

pub returns : goal.returns
returns g c = one_lining g.S.Figures.notation
