use Rattle.std.proofs.Common.{inl, inr, arith}
use Rattle.std.proofs.lemmas.Result.{err_from_is_err_and}
use Rattle.order.proofs.Outcomes.{never_short}
use Rattle.printing.proofs.Carding.{rows_told, rows_held}
use Rattle.printing.proofs.cards.pruned.Goals as goal

pub returns-in_err-order-clause-answer : goal.returns-in_err-order-clause-answer
returns-in_err-order-clause-answer c =
    let p = err_from_is_err_and c.from_residual-in_err-order.result c.from_residual-in_err-order.ensures.1 in
    rw (p.1, p.2) (inr (inl ((c.in_ok-book.book, c.in_ok-book.ensures.told), never_short _ _ _ _ (omega arith) c.in_err-order.ensures.outcome)))

pub returns-clause-answer : goal.returns-clause-answer
returns-clause-answer c =
    let drawn = c.in_ok-order.ensures.told in
    rows_told c.args.card.now c.min-end.result c.min-end.ensures c.args.book.now c.args.order.now c.in_ok-book.book c.in_ok-order.order.limit drawn.places (record { of_book = c.in_ok-book.ensures.told; of_order = drawn.tells }) c.prune_rows.new.rows c.prune_rows.ensures.rest c.prune_rows.result c.prune_rows.ensures.answer c.prune_rows.ensures.rows

pub returns-clause-card : goal.returns-clause-card
returns-clause-card c = rows_held c.args.card.now c.min-end.result c.min-end.ensures c.prune_rows.new.rows c.prune_rows.ensures.rest c.prune_rows.result c.prune_rows.ensures.rows
