use Rattle.std.proofs.Common.{◌≡◌, length}
use Rattle.planner.specs.Boards.{entry_of}
use Rattle.planner.proofs.Cutting.{Seen}
use Rattle.planner.proofs.closing.Support.cuts_within.Given as goal

abbrev pub invariant-loop-rule : goal.invariant-loop-rule
invariant-loop-rule g l =
    let s = l.fn.self in
    (length l.within ≡ 256) × Seen g.S.Scale.ops (g.W.Prices.weights s.prices.now s.rules.now) s.rules.now (λ part. entry_of g.S.Scale.ops.barred s.parts s.outside.now part l.fn.before 1) l.fn.before s.limit l.within l.rule
