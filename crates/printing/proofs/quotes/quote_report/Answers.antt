use Rattle.printing.proofs.Reporting.{quote_reported}
use Rattle.printing.proofs.Uniqueness.{one_quote_report}
use Rattle.printing.proofs.quotes.quote_report.Goals as goal

pub returns-clause-report : goal.returns-clause-report
returns-clause-report c = quote_reported c.args.book.now c.args.order.now c.quoted.result c.report_of.result c.quoted.ensures c.report_of.ensures

pub returns-clause-only : goal.returns-clause-only
returns-clause-only c = λ other r. one_quote_report c.args.book.now c.args.order.now other c.report_of.result r (quote_reported c.args.book.now c.args.order.now c.quoted.result c.report_of.result c.quoted.ensures c.report_of.ensures)
