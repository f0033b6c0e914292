use Rattle.derivations.proofs.Supporting.{support}
use Rattle.derivations.proofs.support_by_cuts.Goals as goal

pub returns : goal.returns
returns g c = support g.met.S.Scale.lawful
