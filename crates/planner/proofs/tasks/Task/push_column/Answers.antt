use Rattle.std.proofs.Common.{◌≡◌, ◌+◌, ◌-◌, subst, arith}
use Rattle.planner.specs.Boards.{spans_before}
use Rattle.planner.specs.Pushes.{PushedDown, FromSpan}
use Rattle.planner.proofs.Indexing.{spans_last}
use Rattle.planner.proofs.tasks.Task.push_column.Goals as goal

pub loop-before-init : goal.loop-before-init
loop-before-init g c =
    let a = c.args in
    let t = a.self in
    let all : spans_before a.last ≡ spans_before (a.last - 1) + (a.last - 0) = omega (arith, spans_last a.last c.requires.some) in
    subst (λ s. PushedDown g.S.Scale.ops (g.W.Prices.weights t.prices.now t.rules.now) t.rules.now (g.H.Sheet.places t.sheet.now) t.parts a.inside.now a.outside.now (FromSpan s)) all c.requires.pushed
