use Rattle.std.proofs.Common.{Ok, Err, inl, inr, arith}
use Rattle.order.proofs.Outcomes.{never_short}
use Rattle.report.specs.Told.{Tells}
use Rattle.answers.proofs.Uniqueness.{one_office_report}
use Rattle.answers.proofs.Reporting.{fault_told, events_told}
use Rattle.answers.proofs.offices.office_report.Goals as goal

-- the book's text is refused
pub returns-in-Err-clause-report : goal.returns-in-Err-clause-report
returns-in-Err-clause-report c = fault_told _ _ _ _ _ c.in-Err.fault (inl c.in-Err.ensures.outcome) c.of_fault.ensures.refused c.of_fault.ensures.text

pub returns-in-Err-clause-only : goal.returns-in-Err-clause-only
returns-in-Err-clause-only c = λ other texts k. one_office_report _ _ _ _ other (Err c.of_fault.result) texts c.args.told.now k (returns-in-Err-clause-report c)

-- the order's text is refused
pub returns-in-Err-read-clause-report : goal.returns-in-Err-read-clause-report
returns-in-Err-read-clause-report c = fault_told _ _ _ _ _ c.in-Err-read.fault (inr (inl ((c.in-Ok.read, c.in-Ok.ensures.told), never_short _ _ _ _ (omega arith) c.in-Err-read.ensures.outcome))) c.of_fault-in-Err-read.ensures.refused c.of_fault-in-Err-read.ensures.text

pub returns-in-Err-read-clause-only : goal.returns-in-Err-read-clause-only
returns-in-Err-read-clause-only c = λ other texts k. one_office_report _ _ _ _ other (Err c.of_fault-in-Err-read.result) texts c.args.told.now k (returns-in-Err-read-clause-report c)

-- the list is too short
pub returns-in-Err-lines_within-clause-report : goal.returns-in-Err-lines_within-clause-report
returns-in-Err-lines_within-clause-report c =
    let d = c.in-Ok-read.ensures.told in
    let told : Tells c.args.book.now c.args.order.now c.in-Ok.read c.in-Ok-read.drawn.limit d.places = record { of_book = c.in-Ok.ensures.told; of_order = d.tells } in
    fault_told _ _ _ _ _ c.in-Err-lines_within.fault (inr (inr (c.in-Ok.read, c.in-Ok-read.drawn.limit, d.places, told, c.in-Err-lines_within.ensures))) c.of_fault-in-Err-lines_within.ensures.refused c.of_fault-in-Err-lines_within.ensures.text

pub returns-in-Err-lines_within-clause-only : goal.returns-in-Err-lines_within-clause-only
returns-in-Err-lines_within-clause-only c = λ other texts k. one_office_report _ _ _ _ other (Err c.of_fault-in-Err-lines_within.result) texts c.args.told.now k (returns-in-Err-lines_within-clause-report c)

-- the events are played
pub returns-clause-report : goal.returns-clause-report
returns-clause-report c = events_told _ _ _ _ c.in-Ok-lines_within.lines c.tell_by.new.told c.in-Ok.read c.in-Ok-lines_within.ensures.0 c.in-Ok.ensures.told _ c.in-Ok-read.ensures.told c.read-2.auto.memory c.new-sheet.ensures.content c.tell_by.ensures

pub returns-clause-only : goal.returns-clause-only
returns-clause-only c = λ other texts k. one_office_report _ _ _ _ other (Ok c.in-Ok-lines_within.lines) texts c.tell_by.new.told k (returns-clause-report c)
