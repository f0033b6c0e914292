use Rattle.std.proofs.Common.{◌≡◌, ◌+◌}
use Rattle.derivations.specs.Trees.{rule_at}
use Rattle.planner.specs.Boards.{span_number, entry_of}
use Rattle.planner.specs.Pushes.{PushedDown, FromSplit}
use Rattle.planner.proofs.tasks.Task.push_rule.Given as goal

abbrev pub invariant-loop : goal.invariant-loop
invariant-loop g l =
    record {
      parts : l.halves.parts ≡ l.self.parts;
      span : l.halves.span ≡ l.fn.span;
      left : l.halves.left ≡ l.left;
      right : l.halves.right ≡ l.right;
      split : l.halves.split ≡ l.counter;
      pushed : PushedDown g.S.Scale.ops (g.W.Prices.weights l.self.prices.now l.self.rules.now) l.self.rules.now (g.H.Sheet.places l.self.sheet.now) l.self.parts l.inside l.outside (FromSplit (span_number l.fn.span.before l.fn.span.len) l.rule l.counter);
      around : l.around ≡ g.S.Scale.ops.join (entry_of g.S.Scale.ops.barred l.self.parts l.outside (rule_at l.self.rules.now l.rule).part l.fn.span.before l.fn.span.len) (g.W.Prices.weights l.self.prices.now l.self.rules.now l.rule (l.fn.span.before + 1) l.fn.span.len);
    }
