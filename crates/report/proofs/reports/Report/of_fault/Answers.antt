use Rattle.report.proofs.Faults.{shown}
use Rattle.report.proofs.reports.Report.of_fault.Goals as goal

pub returns-clause-text : goal.returns-clause-text
returns-clause-text c = shown _ _ c.args.fault c.faulty_line.result c.faulty_line.ensures c.new-page.ensures c.fault.ensures.text c.fault.ensures.short c.push.ensures
