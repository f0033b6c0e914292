use Rattle.std.proofs.Common.{sym, ◌∙◌}
use Rattle.planner.proofs.Searching.{none_within}
use Rattle.planner.proofs.tasks.Task.least_within.Goals as goal

pub returns-else-at_most-clause-answer : goal.returns-else-at_most-clause-answer
returns-else-at_most-clause-answer g c = none_within g.met.S.Scale.lawful _ _ _ _ _ _ c.least-least.ensures (sym c.at_most.ensures ∙ c.if-at_most.false)
