use Rattle.planner.proofs.Uniqueness.{one_pruned}
use Rattle.planner.proofs.pruning.one_pruned.Goals as goal

pub returns : goal.returns
returns g c = one_pruned g.met.S.Scale.lawful
