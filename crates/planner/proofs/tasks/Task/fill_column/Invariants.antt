use Rattle.std.proofs.Common.{◌+◌, ◌-◌}
use Rattle.planner.specs.Boards.{spans_before}
use Rattle.planner.specs.Charts.{Filled}
use Rattle.planner.proofs.tasks.Task.fill_column.Given as goal

abbrev pub invariant-loop-len : goal.invariant-loop-len
invariant-loop-len g l = Filled g.S.Scale.ops (g.W.Prices.weights l.self.prices.now l.self.rules.now) l.self.rules.now (g.H.Sheet.shown l.self.sheet.now) l.self.parts l.board (spans_before (l.last - 1) + (l.len - 1))
