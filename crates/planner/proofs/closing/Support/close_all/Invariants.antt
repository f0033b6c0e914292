use Rattle.planner.specs.Boards.{entry_of}
use Rattle.planner.proofs.Cutting.{ClosedBefore}
use Rattle.planner.proofs.closing.Support.close_all.Given as goal

abbrev pub invariant-loop-before : goal.invariant-loop-before
invariant-loop-before g l =
    let s = l.fn.self in
    record {
      closing : ClosedBefore g.S.Scale.ops (g.W.Prices.weights s.prices.now s.rules.now) s.rules.now (g.H.Sheet.shown l.initial.sheet) (λ q part. entry_of g.S.Scale.ops.barred s.parts s.outside.now part q 1) s.limit (g.H.Sheet.shown l.sheet) l.before l.closed;
      memory : g.H.Sheet.kept l.initial.sheet l.sheet;
    }
