use Rattle.answers.proofs.Counting.{marks_counted}
use Rattle.answers.proofs.slips.marks_counted.Goals as goal

pub returns : goal.returns
returns g c = marks_counted g.S.Scale.ops
