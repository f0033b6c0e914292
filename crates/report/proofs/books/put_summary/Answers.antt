use Rattle.std.proofs.Common.{◌++◌, ap, ◌∙◌}
use Rattle.text.proofs.Appending.{appended_then, appended_same}
use Rattle.report.specs.Reports.{heading}
use Rattle.report.proofs.books.put_summary.Goals as goal

pub returns : goal.returns
returns c = appended_same (ap (λ bs. heading c.args.book.now ++ bs) (c.text.ensures ∙ c.page_of.ensures.text)) (appended_then c.put_heading.ensures c.put.ensures)
