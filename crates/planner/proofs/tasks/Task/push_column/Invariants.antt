use Rattle.std.proofs.Common.{◌+◌, ◌-◌}
use Rattle.planner.specs.Boards.{spans_before}
use Rattle.planner.specs.Pushes.{PushedDown, FromSpan}
use Rattle.planner.proofs.tasks.Task.push_column.Given as goal

abbrev pub invariant-loop-before : goal.invariant-loop-before
invariant-loop-before g l =
    PushedDown g.S.Scale.ops (g.W.Prices.weights l.self.prices.now l.self.rules.now) l.self.rules.now (g.H.Sheet.places l.self.sheet.now) l.self.parts l.inside l.outside (FromSpan (spans_before (l.last - 1) + (l.last - l.before)))
