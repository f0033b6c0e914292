use Rattle.std.proofs.Common.{◌+◌, length, ap, ◌∙◌, arith}
use Rattle.derivations.specs.Trees.{rule_at, blank}
use Rattle.planner.proofs.Indexing.{index_left, index_right}
use Rattle.planner.proofs.Naming.{halves_within}
use Rattle.planner.proofs.Weighing.{halves_more, by_halves}
use Rattle.planner.proofs.tasks.Task.weight_by_pair.Goals as goal

pub entry_at-a-requires : goal.entry_at-a-requires
entry_at-a-requires g c =
    let a = c.args in
    let t = a.self in
    let i = c.loop.invariant in
    let u = rule_at t.rules.now a.rule in
    let within = halves_within t.parts u.part a.left a.right u.side c.requires.side (t.ranged a.rule blank c.requires.rule).0 in
    let at = rw (i.parts, i.span, i.left, i.split) at c.next-left_index.ensures.left in
    rw at (index_left t.parts a.span.before a.span.len c.loop.counter a.left (length a.board.now) within.0 (omega arith) c.loop-test.true c.requires.room)

pub entry_at-b-requires : goal.entry_at-b-requires
entry_at-b-requires g c =
    let a = c.args in
    let t = a.self in
    let i = c.loop.invariant in
    let u = rule_at t.rules.now a.rule in
    let within = halves_within t.parts u.part a.left a.right u.side c.requires.side (t.ranged a.rule blank c.requires.rule).0 in
    let at = rw (i.parts, i.span, i.right, i.split) at c.next-left_index.ensures.right in
    rw at (index_right t.parts a.span.before a.span.len c.loop.counter a.right (length a.board.now) within.1 (omega arith) c.loop-test.true c.requires.room)

pub loop-preserved : goal.loop-preserved
loop-preserved g c =
    let a = c.args in
    let t = a.self in
    let o = g.S.Scale.ops in
    let i = c.loop.invariant in
    let next = c.next-left_index.ensures in
    let u = rule_at t.rules.now a.rule in
    let within = halves_within t.parts u.part a.left a.right u.side c.requires.side (t.ranged a.rule blank c.requires.rule).0 in
    let left = rw (i.parts, i.span, i.left, i.split) at next.left in
    let right = rw (i.parts, i.span, i.right, i.split) at next.right in
    record {
      parts = next.parts ∙ i.parts;
      span = next.span ∙ i.span;
      left = next.left_same ∙ i.left;
      right = next.right_same ∙ i.right;
      split = next.split ∙ ap (λ x. x + 1) i.split;
      least = rw (c.lesser-least.ensures, c.join.ensures)
          (halves_more g.met.S.Scale.lawful (g.W.Prices.weights t.prices.now t.rules.now) t.rules.now (g.H.Sheet.shown t.sheet.now) a.left a.right a.span.before a.span.len t.parts a.board.now c.loop.counter c.loop.least c.entry_at-a.result c.entry_at-b.result within.0 within.1 (omega arith) c.loop-test.true c.requires.filled
          (rw left at (c.entry_at-a.ensures o.barred)) (rw right at (c.entry_at-b.ensures o.barred)) i.least);
    }

pub returns : goal.returns
returns g c =
    let a = c.args in
    let t = a.self in
    rw c.join-2.ensures
    (by_halves g.met.S.Scale.lawful (g.W.Prices.weights t.prices.now t.rules.now) t.rules.now (g.H.Sheet.shown t.sheet.now) a.left a.right a.span.before a.span.len a.rule c.loop.counter c.price_at-price.result c.loop.least c.requires.rule c.requires.side (omega arith) c.price_at-price.ensures c.loop.invariant.least)
