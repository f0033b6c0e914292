use Rattle.std.proofs.Common.{refl}
use Rattle.derivations.specs.Trees.{rule_at, blank}
use Rattle.planner.proofs.Naming.{part_within}
use Rattle.planner.proofs.Filling.{filled_put, lowered_put}
use Rattle.planner.proofs.tasks.Task.lower.Goals as goal

pub returns-clause-filled : goal.returns-clause-filled
returns-clause-filled g c =
    let a = c.args in
    let t = a.self in
    rw c.lower_to.ensures (filled_put g.met.S.Scale.lawful (g.W.Prices.weights t.prices.now t.rules.now) t.rules.now (g.H.Sheet.shown t.sheet.now) t.parts a.board.now a.span.before a.span.len (rule_at t.rules.now a.rule).part _ c.requires.filled)

pub returns-clause-lowered : goal.returns-clause-lowered
returns-clause-lowered g c =
    let a = c.args in
    let t = a.self in
    let u = rule_at t.rules.now a.rule in
    rw c.lower_to.ensures
    (lowered_put g.met.S.Scale.lawful (g.W.Prices.weights t.prices.now t.rules.now) t.rules.now (g.H.Sheet.shown t.sheet.now) t.parts a.board.now a.span.before a.span.len a.rule c.weight_by-weight.result _ (part_within t.parts u.part u.side (t.ranged a.rule blank c.requires.rule).0) c.requires.room c.requires.lowered c.weight_by-weight.ensures refl)
