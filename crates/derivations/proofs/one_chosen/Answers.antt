use Rattle.derivations.proofs.Choosing.{chosen_same}
use Rattle.derivations.proofs.one_chosen.Goals as goal

pub returns : goal.returns
returns g c = chosen_same g.met.S.Scale.lawful
