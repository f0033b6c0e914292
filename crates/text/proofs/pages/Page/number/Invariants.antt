use Rattle.std.proofs.Common.{take}
use Rattle.text.specs.Pages.{Appended}
use Rattle.text.proofs.pages.Page.number.Given as goal

abbrev pub invariant-loop-digit : goal.invariant-loop-digit
invariant-loop-digit l = Appended l.initial.self (take l.digit-index l.digit-items) l.self
