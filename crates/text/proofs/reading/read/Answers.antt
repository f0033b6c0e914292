use Rattle.std.proofs.Common.{arith}
use Rattle.text.proofs.Cutting.{starts_shorter}
use Rattle.text.proofs.Standing.{leads_on, sofar_more}
use Rattle.text.proofs.reading.read.Goals as goal

pub loop-rest-preserved : goal.loop-rest-preserved
loop-rest-preserved g c =
    let l = c.in-Ok.ensures in
    (omega (arith, starts_shorter l.1.starts, c.loop-rest.invariant.0), sofar_more c.loop-rest.invariant.1 l.0 _ _ (leads_on g.D.Draft.form _ l.1) l.2)
