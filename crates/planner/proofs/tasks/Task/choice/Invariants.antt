use Rattle.planner.proofs.Picking.{Missed}
use Rattle.planner.proofs.tasks.Task.choice.Given as goal

abbrev pub invariant-found : goal.invariant-found
invariant-found g l = Missed g.S.Scale.ops (g.W.Prices.weights l.self.prices.now l.self.rules.now) l.self.rules.now (g.H.Sheet.shown l.self.sheet.now) l.part l.span.before l.span.len l.least l.split 0

abbrev pub invariant-loop-rule : goal.invariant-loop-rule
invariant-loop-rule g l = Missed g.S.Scale.ops (g.W.Prices.weights l.self.prices.now l.self.rules.now) l.self.rules.now (g.H.Sheet.shown l.self.sheet.now) l.part l.span.before l.span.len l.least l.split l.rule
