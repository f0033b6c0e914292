use Rattle.std.proofs.Common.{length, arith}
use Rattle.derivations.specs.Trees.{rule_at, blank}
use Rattle.planner.proofs.Indexing.{index_left}
use Rattle.planner.proofs.Naming.{halves_within}
use Rattle.planner.proofs.Building.{cut_split, by_no_pair, by_pair}
use Rattle.planner.proofs.tasks.Task.weight_by_split.Goals as goal

pub entry-a-requires-clause-room : goal.entry-a-requires-clause-room
entry-a-requires-clause-room g c =
    let a = c.args in
    let t = a.self in
    let u = rule_at t.rules.now a.rule in
    let within = halves_within t.parts u.part c.in-Pair.left c.in-Pair.right u.side c.in-Pair.is (t.ranged a.rule blank c.requires.rule).0 in
    rw (c.left.ensures.before, c.left.ensures.len) (index_left t.parts a.span.before a.span.len a.split c.in-Pair.left (length a.board.now) within.0 (omega arith) c.requires.split c.requires.room)

pub returns-in-Cut : goal.returns-in-Cut
returns-in-Cut g c =
    let a = c.args in
    let t = a.self in
    cut_split g.met.S.Scale.lawful (g.W.Prices.weights t.prices.now t.rules.now) t.rules.now (g.H.Sheet.shown t.sheet.now) a.rule a.span.before a.span.len a.split c.in-Cut.stroke c.weight_by_cut.result c.requires.rule c.in-Cut.is c.requires.split c.weight_by_cut.ensures

pub returns-then-split-eq0 : goal.returns-then-split-eq0
returns-then-split-eq0 g c =
    let a = c.args in
    let t = a.self in
    rw (c.barred.ensures, c.if-split-eq0.true) (by_no_pair g.met.S.Scale.lawful (g.W.Prices.weights t.prices.now t.rules.now) t.rules.now (g.H.Sheet.shown t.sheet.now) a.rule (rule_at t.rules.now a.rule).part a.span.before a.span.len c.in-Pair.left c.in-Pair.right c.in-Pair.is)

pub returns-else-split-eq0 : goal.returns-else-split-eq0
returns-else-split-eq0 g c =
    let a = c.args in
    let t = a.self in
    let u = rule_at t.rules.now a.rule in
    let within = halves_within t.parts u.part c.in-Pair.left c.in-Pair.right u.side c.in-Pair.is (t.ranged a.rule blank c.requires.rule).0 in
    by_pair g.met.S.Scale.lawful (g.W.Prices.weights t.prices.now t.rules.now) t.rules.now (g.H.Sheet.shown t.sheet.now) t.parts a.board.now a.rule a.span.before a.span.len a.split c.in-Pair.left c.in-Pair.right c.join-else-split-eq0.result c.requires.rule c.in-Pair.is within.0 within.1 (omega arith) c.requires.split c.requires.filled
    (cc (c.entry-a.ensures g.S.Scale.ops.barred, c.entry-b.ensures g.S.Scale.ops.barred))
