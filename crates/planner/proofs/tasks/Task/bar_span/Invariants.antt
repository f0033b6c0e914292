use Rattle.planner.specs.Boards.{span_number}
use Rattle.planner.specs.Charts.{Filled}
use Rattle.planner.proofs.Filling.{Barred}
use Rattle.planner.proofs.tasks.Task.bar_span.Given as goal

abbrev pub invariant-loop-part : goal.invariant-loop-part
invariant-loop-part g l = record {
  filled : Filled g.S.Scale.ops (g.W.Prices.weights l.self.prices.now l.self.rules.now) l.self.rules.now (g.H.Sheet.shown l.self.sheet.now) l.self.parts l.board (span_number l.span.before l.span.len);
  barred : Barred g.S.Scale.ops l.self.parts l.board l.span.before l.span.len l.part;
}
