use Rattle.std.proofs.Common.{length, arith}
use Rattle.derivations.specs.Trees.{rule_at}
use Rattle.planner.specs.Boards.{spans_before, span_number}
use Rattle.planner.proofs.Indexing.{entries_are, index_in_board, number_within, rows_within}
use Rattle.planner.proofs.Picking.{missed_first, missed_other, missed_dear, missed_round, picked_here, picked_before, inside_filled}
use Rattle.planner.proofs.tasks.Task.choice.Goals.{else-self-rule-via-then-self-rule+else-at_most, else-self-rule-via-else-self-rule}
use Rattle.planner.proofs.tasks.Task.choice.Goals as goal

pub entry-least-requires-clause-room : goal.entry-least-requires-clause-room
entry-least-requires-clause-room g c =
    let a = c.args in
    let n = g.H.Sheet.places a.self.sheet.now in
    index_in_board a.self.parts a.span.before a.span.len a.part n (length a.board.now) c.requires.part a.span.some c.requires.few (rw (entries_are n a.self.parts) at c.requires.room)

pub found-init : goal.found-init
found-init g c =
    let a = c.args in
    missed_first g.met.S.Scale.lawful (g.W.Prices.weights a.self.prices.now a.self.rules.now) a.self.rules.now (g.H.Sheet.shown a.self.sheet.now) a.part a.span.before a.span.len c.entry-least.result c.first_split-split.result a.span.some c.first_split-split.ensures

pub loop-rule-init : goal.loop-rule-init
loop-rule-init g c = c.found.invariant

pub weight_by_split-requires-clause-room : goal.weight_by_split-requires-clause-room
weight_by_split-requires-clause-room g c =
    let a = c.args in
    let n = g.H.Sheet.places a.self.sheet.now in
    let less = number_within a.span.before a.span.len n a.span.some c.requires.few in
    omega (arith, c.requires.room, entries_are n a.self.parts, rows_within (span_number a.span.before a.span.len) (spans_before n) a.self.parts (omega (arith, less)))

pub weight_by_split-requires-clause-filled : goal.weight_by_split-requires-clause-filled
weight_by_split-requires-clause-filled g c =
    let a = c.args in
    inside_filled g.S.Scale.ops (g.W.Prices.weights a.self.prices.now a.self.rules.now) a.self.rules.now (g.H.Sheet.shown a.self.sheet.now) a.self.parts a.board.now (g.H.Sheet.places a.self.sheet.now) a.span.before a.span.len a.span.some c.requires.few c.requires.inside

pub loop-rule-preserved : goal.loop-rule-preserved
loop-rule-preserved g c =
    let a = c.args in
    let laws = g.met.S.Scale.lawful in
    let W = g.W.Prices.weights a.self.prices.now a.self.rules.now in
    let shown = g.H.Sheet.shown a.self.sheet.now in
    elim c.else-self-rule.branch [
      | else-self-rule-via-then-self-rule+else-at_most w ↦ missed_dear laws W a.self.rules.now shown a.part a.span.before a.span.len c.entry-least.result c.found.split c.loop-rule.rule (rule_at a.self.rules.now c.loop-rule.rule).part w.weight_by_split.result w.if-self-rule.true w.weight_by_split.ensures w.if-at_most.ensures c.loop-rule.invariant
      | else-self-rule-via-else-self-rule w ↦ missed_other laws W a.self.rules.now shown a.part a.span.before a.span.len c.entry-least.result c.found.split c.loop-rule.rule w.if-self-rule.false c.loop-rule.invariant
    ]

pub found-preserved : goal.found-preserved
found-preserved g c =
    let a = c.args in
    missed_round g.met.S.Scale.lawful (g.W.Prices.weights a.self.prices.now a.self.rules.now) a.self.rules.now (g.H.Sheet.shown a.self.sheet.now) a.part a.span.before a.span.len c.entry-least.result c.found.split c.loop-rule.rule c.loop-rule-test.false c.loop-rule.invariant

pub returns-after-found : goal.returns-after-found
returns-after-found g c =
    let goes = c.requires.lawful in
    let a = c.args in
    let laws = g.met.S.Scale.lawful in
    let W = g.W.Prices.weights a.self.prices.now a.self.rules.now in
    let shown = g.H.Sheet.shown a.self.sheet.now in
    let least = c.entry-least.ensures g.S.Scale.ops.barred in
    picked_before laws W a.self.rules.now shown a.part a.span.before a.span.len c.entry-least.result c.found.split c.found.code c.found-test.false (rw least (c.requires.inside a.part a.span.before a.span.len c.requires.part a.span.some c.requires.few)) (rw least goes) c.found.invariant

pub returns-then-at_most : goal.returns-then-at_most
returns-then-at_most g c =
    let goes = c.requires.lawful in
    let a = c.args in
    let laws = g.met.S.Scale.lawful in
    let W = g.W.Prices.weights a.self.prices.now a.self.rules.now in
    let shown = g.H.Sheet.shown a.self.sheet.now in
    let least = c.entry-least.ensures g.S.Scale.ops.barred in
    picked_here laws W a.self.rules.now shown a.part a.span.before a.span.len c.entry-least.result c.found.split c.loop-rule.rule (rule_at a.self.rules.now c.loop-rule.rule).part c.weight_by_split.result (rw least (c.requires.inside a.part a.span.before a.span.len c.requires.part a.span.some c.requires.few)) (rw least goes) c.if-self-rule.true c.weight_by_split.ensures c.if-at_most.ensures c.loop-rule.invariant
