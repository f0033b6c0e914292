use Rattle.std.proofs.Common.{◌-◌}
use Rattle.planner.specs.Boards.{spans_before}
use Rattle.planner.specs.Pushes.{PushedDown, FromSpan}
use Rattle.planner.proofs.tasks.Task.fill_outside.Given as goal

abbrev pub invariant-loop-passed : goal.invariant-loop-passed
invariant-loop-passed g l =
    let n = g.H.Sheet.places l.self.sheet.now in
    PushedDown g.S.Scale.ops (g.W.Prices.weights l.self.prices.now l.self.rules.now) l.self.rules.now n l.self.parts l.inside l.outside (FromSpan (spans_before (n - l.passed)))
