use Rattle.std.proofs.Common.{◌≡◌}
use Rattle.planner.proofs.Weighing.{HalvesLeast}
use Rattle.planner.proofs.tasks.Task.weight_by_pair.Given as goal

abbrev pub invariant-loop : goal.invariant-loop
invariant-loop g l = record {
  parts : l.halves.parts ≡ l.self.parts;
  span : l.halves.span ≡ l.fn.span;
  left : l.halves.left ≡ l.left;
  right : l.halves.right ≡ l.right;
  split : l.halves.split ≡ l.counter;
  least : HalvesLeast g.S.Scale.ops (g.W.Prices.weights l.self.prices.now l.self.rules.now) l.self.rules.now (g.H.Sheet.shown l.self.sheet.now) l.left l.right l.fn.span.before l.fn.span.len l.counter l.least;
}
