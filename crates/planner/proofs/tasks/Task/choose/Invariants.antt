use Rattle.planner.proofs.Owing.{turns, Owing}
use Rattle.planner.proofs.tasks.Task.choose.Given as goal

abbrev pub invariant-loop-next : goal.invariant-loop-next
invariant-loop-next g l =
    let s = l.fn.self in
    Owing g.S.Scale.ops (g.W.Prices.weights s.prices.now s.rules.now) s.rules.now (g.H.Sheet.shown s.sheet.now) s.parts (g.H.Sheet.places s.sheet.now) l.fn.board l.fn.part l.fn.span.before l.fn.span.len l.codes l.owed.items

-- each turn takes one place from what is owed, or makes two entries of one
abbrev pub decreases-loop-next : goal.decreases-loop-next
decreases-loop-next g l = turns l.owed.items
