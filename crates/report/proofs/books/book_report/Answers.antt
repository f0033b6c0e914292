use Rattle.report.specs.Reports.{BookReport}
use Rattle.report.proofs.Uniqueness.{one_book_report}
use Rattle.report.proofs.Reporting.{book_reported, book_refused}
use Rattle.report.proofs.books.book_report.Goals as goal

pub returns-in-Ok-clause-report : goal.returns-in-Ok-clause-report
returns-in-Ok-clause-report c = book_reported _ c.in-Ok.book _ c.in-Ok.ensures.told c.new-page.ensures c.put_summary.ensures c.of.ensures.text c.of.ensures.accepted

pub returns-in-Ok-clause-only : goal.returns-in-Ok-clause-only
returns-in-Ok-clause-only c =
    let report : BookReport c.args.text.now c.of.result = book_reported _ c.in-Ok.book _ c.in-Ok.ensures.told c.new-page.ensures c.put_summary.ensures c.of.ensures.text c.of.ensures.accepted in
    λ other r. one_book_report _ other c.of.result r report

pub returns-in-Err-clause-report : goal.returns-in-Err-clause-report
returns-in-Err-clause-report c = book_refused _ c.in-Err.fault _ c.in-Err.ensures.outcome c.of_fault.ensures.text c.of_fault.ensures.refused

pub returns-in-Err-clause-only : goal.returns-in-Err-clause-only
returns-in-Err-clause-only c =
    let report : BookReport c.args.text.now c.of_fault.result = book_refused _ c.in-Err.fault _ c.in-Err.ensures.outcome c.of_fault.ensures.text c.of_fault.ensures.refused in
    λ other r. one_book_report _ other c.of_fault.result r report
