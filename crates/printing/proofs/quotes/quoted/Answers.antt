use Rattle.std.proofs.Common.{inl, inr, arith}
use Rattle.std.proofs.lemmas.Result.{err_from_is_err_and}
use Rattle.order.proofs.Outcomes.{never_short}
use Rattle.printing.proofs.quotes.quoted.Goals as goal

pub returns-in_err-order : goal.returns-in_err-order
returns-in_err-order c =
    let p = err_from_is_err_and c.from_residual-in_err-order.result c.from_residual-in_err-order.ensures.1 in
    rw (p.1, p.2) (inr (inl ((c.in_ok-book.book, c.in_ok-book.ensures.told), never_short _ _ _ _ (omega arith) c.in_err-order.ensures.outcome)))
