use Rattle.planner.proofs.Filling.{lowered_all}
use Rattle.planner.proofs.tasks.Task.fill_span.Goals as goal

pub returns : goal.returns
returns g c =
    let a = c.args in
    let t = a.self in
    let l = c.loop-rule in
    lowered_all g.met.S.Scale.lawful (g.W.Prices.weights t.prices.now t.rules.now) t.rules.now (g.H.Sheet.shown t.sheet.now) t.parts l.board a.span.before a.span.len l.rule a.span.some c.loop-rule-test.false l.invariant.filled l.invariant.lowered
