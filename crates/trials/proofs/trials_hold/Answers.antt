-- Each row of the table passes its test, which computes, and so the table holds.
use Rattle.std.proofs.Common.{refl}
use Rattle.trials.specs.Trials.{trials}
use Rattle.trials.proofs.Testing.{all_hold}
use Rattle.trials.proofs.trials_hold.Goals as goal

pub returns : goal.returns
returns c = all_hold trials refl
