use Rattle.std.proofs.Common.{arith}
use Rattle.planner.proofs.Indexing.{index_in_span}
use Rattle.planner.proofs.Filling.{filled_put, barred_put}
use Rattle.planner.proofs.tasks.Task.bar_span.Goals as goal

pub loop-part-preserved : goal.loop-part-preserved
loop-part-preserved g c =
    let a = c.args in
    let t = a.self in
    let l = c.loop-part in
    record {
      filled = rw c.put.ensures (filled_put g.met.S.Scale.lawful (g.W.Prices.weights t.prices.now t.rules.now) t.rules.now (g.H.Sheet.shown t.sheet.now) t.parts l.board a.span.before a.span.len l.part c.barred.result l.invariant.filled);
      barred = rw c.put.ensures (barred_put g.S.Scale.ops t.parts l.board a.span.before a.span.len l.part c.barred.result (index_in_span t.parts a.span.before a.span.len l.part _ c.loop-part-test.true (omega arith)) c.barred.ensures l.invariant.barred);
    }
