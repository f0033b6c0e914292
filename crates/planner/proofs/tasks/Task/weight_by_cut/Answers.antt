use Rattle.std.proofs.Common.{refl}
use Rattle.derivations.specs.Trees.{rule_at}
use Rattle.derivations.proofs.Costing.{cut_least}
use Rattle.planner.proofs.tasks.Task.weight_by_cut.Goals as goal

pub returns-then-look : goal.returns-then-look
returns-then-look g c =
    let a = c.args in
    let t = a.self in
    rw (c.if-span-eq1.true, c.price_at.ensures) (cut_least g.met.S.Scale.lawful (g.W.Prices.weights t.prices.now t.rules.now) t.rules.now (g.H.Sheet.shown t.sheet.now) a.rule (rule_at t.rules.now a.rule).part a.span.before a.stroke (record { listed = c.requires.rule; for_part = refl; by_side = c.requires.side }) (cc))
