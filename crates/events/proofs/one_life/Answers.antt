use Rattle.events.proofs.Uniqueness.{one_life}
use Rattle.events.proofs.one_life.Goals as goal

pub returns : goal.returns
returns g c = one_life g.met.S.Scale.lawful
