use Rattle.derivations.proofs.Running.{cost_least, cost_is}
use Rattle.derivations.proofs.cost_is_least.Goals as goal

pub returns : goal.returns
returns g c W rules run = (cost_least g.met.S.Scale.lawful W rules run, cost_is g.met.S.Scale.lawful W rules run)
