use Rattle.planner.specs.Boards.{span_number}
use Rattle.planner.specs.Pushes.{PushedDown, FromRule}
use Rattle.planner.proofs.tasks.Task.push_span.Given as goal

abbrev pub invariant-loop-rule : goal.invariant-loop-rule
invariant-loop-rule g l =
    PushedDown g.S.Scale.ops (g.W.Prices.weights l.self.prices.now l.self.rules.now) l.self.rules.now (g.H.Sheet.places l.self.sheet.now) l.self.parts l.inside l.outside (FromRule (span_number l.span.before l.span.len) l.rule)
