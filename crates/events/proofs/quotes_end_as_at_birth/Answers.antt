use Rattle.events.proofs.Living.{life_theorem}
use Rattle.events.proofs.quotes_end_as_at_birth.Goals as goal

pub returns : goal.returns
returns g c = life_theorem g.met.S.Scale.lawful
