use Rattle.std.proofs.Common.{arith}
use Rattle.derivations.proofs.Costing.{weight_is_least}
use Rattle.derivations.proofs.Running.{over_sheet_cheapest}
use Rattle.derivations.proofs.cheapest_is_least.Goals as goal

pub returns : goal.returns
returns g c W rules n shown =
    let laws = g.met.S.Scale.lawful in
    over_sheet_cheapest laws W rules shown n _ (weight_is_least laws W rules shown n 0 0 n (omega arith))
