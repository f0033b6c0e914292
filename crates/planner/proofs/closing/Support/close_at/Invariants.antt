use Rattle.planner.specs.Boards.{entry_of}
use Rattle.planner.proofs.Cutting.{Closed}
use Rattle.planner.proofs.closing.Support.close_at.Given as goal

abbrev pub invariant-loop-stroke : goal.invariant-loop-stroke
invariant-loop-stroke g l =
    let s = l.fn.self in
    record {
      closing : Closed g.S.Scale.ops (g.W.Prices.weights s.prices.now s.rules.now) s.rules.now (g.H.Sheet.shown l.initial.sheet) (λ part. entry_of g.S.Scale.ops.barred s.parts s.outside.now part l.fn.before 1) l.fn.before s.limit (g.H.Sheet.shown l.sheet) l.stroke l.closed;
      memory : g.H.Sheet.kept l.initial.sheet l.sheet;
    }
