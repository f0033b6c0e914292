use Rattle.std.proofs.lemmas.Result.{err_from_is_err_and}
use Rattle.marks.proofs.lives.Life.play.Goals as goal

pub returns-in_err-cost-in-Quote-clause-life : goal.returns-in_err-cost-in-Quote-clause-life
returns-in_err-cost-in-Quote-clause-life g c birth events answers ledger lived =
    let p = err_from_is_err_and c.from_residual-in_err-cost-in-Quote.result c.from_residual-in_err-cost-in-Quote.ensures.1 in
    rw (p.1, p.2, c.in-Quote.is) (c.in_err-cost-in-Quote.ensures.life birth events answers ledger lived)

pub returns-in_ok-cost-in-Quote-clause-life : goal.returns-in_ok-cost-in-Quote-clause-life
returns-in_ok-cost-in-Quote-clause-life g c birth events answers ledger lived =
    rw c.in-Quote.is (c.in_ok-cost-in-Quote.ensures.life birth events answers ledger lived)
