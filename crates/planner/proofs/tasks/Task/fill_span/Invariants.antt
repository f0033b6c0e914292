use Rattle.planner.specs.Boards.{span_number}
use Rattle.planner.specs.Charts.{Filled, Lowered}
use Rattle.planner.proofs.tasks.Task.fill_span.Given as goal

abbrev pub invariant-loop-rule : goal.invariant-loop-rule
invariant-loop-rule g l = record {
  filled : Filled g.S.Scale.ops (g.W.Prices.weights l.self.prices.now l.self.rules.now) l.self.rules.now (g.H.Sheet.shown l.self.sheet.now) l.self.parts l.board (span_number l.span.before l.span.len);
  lowered : Lowered g.S.Scale.ops (g.W.Prices.weights l.self.prices.now l.self.rules.now) l.self.rules.now (g.H.Sheet.shown l.self.sheet.now) l.self.parts l.board l.span.before l.span.len l.rule;
}
