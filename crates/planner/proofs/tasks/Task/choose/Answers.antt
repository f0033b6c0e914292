use Rattle.std.proofs.Common.{◌/◌, arith}
use Rattle.planner.specs.declared.choices.Owed.{Owed}
use Rattle.planner.proofs.Owing.{owing_cut, owing_few, owing_first, owing_halves, owing_pair, owing_room, turns_cut, turns_pair}
use Rattle.planner.proofs.Tracing.{BestHalves}
use Rattle.planner.proofs.tasks.Task.choose.Given.{Over}
use Rattle.planner.proofs.tasks.Task.choose.Goals.{In-Pair}
use Rattle.planner.proofs.tasks.Task.choose.Goals as goal

halves : (g : Over) (c : In-Pair g) → BestHalves g.met.S.Scale.lawful (g.W.Prices.weights c.args.self.prices.now c.args.self.rules.now) c.args.self.rules.now (g.H.Sheet.shown c.args.self.sheet.now) c.args.self.parts c.args.board.now c.in-Some.next.part c.in-Some.next.span.before c.in-Some.next.span.len c.choice-code.result c.in-Pair.left c.in-Pair.right (c.choice-code.result / 128)
halves g c =
    let s = c.args.self in
    owing_halves {W = g.W.Prices.weights s.prices.now s.rules.now} c.pop.new.self.items c.in-Some.next (rw c.in-Some.ensures.items at c.loop-next.invariant) (omega (arith, c.requires.codes, c.loop-next.auto.codes)) g.met.S.Scale.lawful c.choice-code.ensures c.requires.inside s.ranged s.few_rules c.in-Pair.left c.in-Pair.right c.in-Pair.is

pub loop-next-init : goal.loop-next-init
loop-next-init g c =
    let whole : Owed = record { span = c.args.span; part = c.args.part } in
    rw (c.push.ensures.items, c.new-owed.ensures) (owing_first whole (record { part = c.requires.part; few = c.requires.few; lawful = c.requires.lawful }))

pub put-requires-clause-room : goal.put-requires-clause-room
put-requires-clause-room g c = owing_room c.pop.new.self.items c.in-Some.next (rw c.in-Some.ensures.items at c.loop-next.invariant) (omega (arith, c.requires.codes, c.loop-next.auto.codes))

pub loop-next-smaller-in-Cut : goal.loop-next-smaller-in-Cut
loop-next-smaller-in-Cut g c = rw c.in-Some.ensures.items (turns_cut c.pop.new.self.items c.in-Some.next)

pub loop-next-preserved-in-Cut : goal.loop-next-preserved-in-Cut
loop-next-preserved-in-Cut g c =
    let s = c.args.self in
    rw c.put.ensures (owing_cut c.pop.new.self.items c.in-Some.next (rw c.in-Some.ensures.items at c.loop-next.invariant) (omega (arith, c.requires.codes, c.loop-next.auto.codes)) g.met.S.Scale.lawful c.choice-code.ensures c.requires.inside s.ranged s.few_rules c.in-Cut.stroke c.in-Cut.is)

pub left-requires : goal.left-requires
left-requires g c = let h = halves g (goal.at.left-requires g c).In-Pair in record { some = h.some; fewer = h.fewer }

pub push-requires-in-Pair : goal.push-requires-in-Pair
push-requires-in-Pair g c =
    let few = owing_few c.pop.new.self.items c.in-Some.next (rw c.in-Some.ensures.items at c.loop-next.invariant) in
    (omega arith, omega (arith, few, c.in-Some.next.span.some))

pub right-requires : goal.right-requires
right-requires g c = (halves g (goal.at.right-requires g c).In-Pair).fewer

pub push-requires-in-Pair-2 : goal.push-requires-in-Pair-2
push-requires-in-Pair-2 g c =
    let few = owing_few c.pop.new.self.items c.in-Some.next (rw c.in-Some.ensures.items at c.loop-next.invariant) in
    let h = halves g (goal.at.push-requires-in-Pair-2 g c).In-Pair in
    (omega arith, omega (arith, few, h.some, h.fewer, c.push-in-Pair.ensures.len))

pub loop-next-smaller : goal.loop-next-smaller
loop-next-smaller g c =
    let left : Owed = record { span = c.left.result; part = c.in-Pair.left } in
    let right : Owed = record { span = c.right.result; part = c.in-Pair.right } in
    let h = halves g (goal.at.loop-next-smaller g c).In-Pair in
    rw (c.in-Some.ensures.items, c.push-in-Pair-2.ensures.items, c.push-in-Pair.ensures.items) (turns_pair c.pop.new.self.items c.in-Some.next left right (omega (arith, c.left.ensures.len, c.right.ensures.len, h.fewer)))

pub loop-next-preserved : goal.loop-next-preserved
loop-next-preserved g c =
    let s = c.args.self in
    let left : Owed = record { span = c.left.result; part = c.in-Pair.left } in
    let right : Owed = record { span = c.right.result; part = c.in-Pair.right } in
    let h = halves g (goal.at.loop-next-preserved g c).In-Pair in
    rw (c.push-in-Pair-2.ensures.items, c.push-in-Pair.ensures.items, c.put.ensures) (owing_pair {W = g.W.Prices.weights s.prices.now s.rules.now} c.pop.new.self.items c.in-Some.next (rw c.in-Some.ensures.items at c.loop-next.invariant) (omega (arith, c.requires.codes, c.loop-next.auto.codes)) g.met.S.Scale.lawful c.choice-code.ensures c.requires.inside s.ranged s.few_rules left right (rw c.left.ensures.len h) c.left.ensures.before (rw c.left.ensures.len c.right.ensures.before) (rw c.left.ensures.len c.right.ensures.len))
