use Rattle.printing.proofs.Reporting.{card_reported}
use Rattle.printing.proofs.Uniqueness.{one_card_report}
use Rattle.printing.proofs.cards.card_report.Goals as goal

pub returns-clause-report : goal.returns-clause-report
returns-clause-report c = card_reported c.args.book.now c.args.order.now c.args.card.now c.pruned.new.card c.pruned.result c.report_of.result c.pruned.ensures.answer c.pruned.ensures.card c.report_of.ensures

pub returns-clause-only : goal.returns-clause-only
returns-clause-only c = λ other after r. one_card_report c.args.book.now c.args.order.now c.args.card.now other c.report_of.result after c.pruned.new.card r (card_reported c.args.book.now c.args.order.now c.args.card.now c.pruned.new.card c.pruned.result c.report_of.result c.pruned.ensures.answer c.pruned.ensures.card c.report_of.ensures)
