use Rattle.std.proofs.Common.{[], ◌∷◌, ◌++◌, ap}
use Rattle.refusal.specs.Faults.{fault_line}
use Rattle.text.proofs.Appending.{appended_then, appended_same}
use Rattle.answers.proofs.paragraphs.put_refused_event.Goals as goal

pub returns-clause-text : goal.returns-clause-text
returns-clause-text c = appended_same (ap (λ f. fault_line f ++ 10 ∷ []) c.of_sheet.ensures) (appended_then c.fault.ensures.text c.push.ensures)
