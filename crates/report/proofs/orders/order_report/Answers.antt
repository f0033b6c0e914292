use Rattle.std.proofs.Common.{arith}
use Rattle.order.proofs.Outcomes.{never_short}
use Rattle.report.specs.Reports.{OrderReport}
use Rattle.report.proofs.Uniqueness.{one_order_report}
use Rattle.report.proofs.Reporting.{order_reported, order_refused}
use Rattle.report.proofs.orders.order_report.Goals as goal

pub returns-in-Ok-clause-report : goal.returns-in-Ok-clause-report
returns-in-Ok-clause-report c = order_reported c.in-Ok.ensures.told _ _ c.read.auto.memory c.new-sheet.ensures.content c.new-page.ensures c.put_order.ensures c.of.ensures.text c.of.ensures.accepted

pub returns-in-Ok-clause-only : goal.returns-in-Ok-clause-only
returns-in-Ok-clause-only c =
    let report : OrderReport c.args.text.now c.of.result = order_reported c.in-Ok.ensures.told _ _ c.read.auto.memory c.new-sheet.ensures.content c.new-page.ensures c.put_order.ensures c.of.ensures.text c.of.ensures.accepted in
    λ other r. one_order_report _ other c.of.result r report

pub returns-in-Err-clause-report : goal.returns-in-Err-clause-report
returns-in-Err-clause-report c = order_refused _ c.in-Err.fault _ (never_short _ _ _ _ (omega arith) c.in-Err.ensures.outcome) c.of_fault.ensures.text c.of_fault.ensures.refused

pub returns-in-Err-clause-only : goal.returns-in-Err-clause-only
returns-in-Err-clause-only c =
    let report : OrderReport c.args.text.now c.of_fault.result = order_refused _ c.in-Err.fault _ (never_short _ _ _ _ (omega arith) c.in-Err.ensures.outcome) c.of_fault.ensures.text c.of_fault.ensures.refused in
    λ other r. one_order_report _ other c.of_fault.result r report
