use Rattle.events.proofs.Living.{same_end}
use Rattle.events.proofs.two_quotes_end_alike.Goals as goal

pub returns : goal.returns
returns g c = same_end g.met.S.Scale.lawful
