use Rattle.planner.proofs.Uniqueness.{one_quoted}
use Rattle.planner.proofs.quoting.one_quoted.Goals as goal

pub returns : goal.returns
returns g c = one_quoted g.met.S.Scale.lawful
