use Rattle.std.proofs.Common.{◌≡◌}
use Rattle.book.proofs.Putting.{Filled}
use Rattle.book.proofs.writing.page_of.Given as goal

abbrev pub invariant-loop-rule : goal.invariant-loop-rule
invariant-loop-rule l = Filled l.book.parts l.rule-items l.rule-index l.page × (l.rule-items ≡ l.book.rules)
