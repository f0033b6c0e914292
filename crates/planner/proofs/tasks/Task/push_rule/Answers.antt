use Rattle.std.proofs.Common.{◌+◌, ◌-◌, ◌*◌, ◌≤◌, length, refl, sym, ap, ◌∙◌, arith}
use Rattle.book.specs.declared.rules.RightSide.TheVariants.{Pair}
use Rattle.scale.specs.Ops.{lesser_of}
use Rattle.derivations.specs.Trees.{Makes, rule_at}
use Rattle.planner.specs.Boards.{spans_before, entry_of}
use Rattle.planner.proofs.Indexing.{index_in_board, entries_are}
use Rattle.planner.proofs.Naming.{pair_named}
use Rattle.planner.proofs.Advancing.{rule_ends, split_code, span_kept}
use Rattle.planner.proofs.tasks.Task.push_rule.Goals as goal

pub entry-requires-clause-room : goal.entry-requires-clause-room
entry-requires-clause-room g c =
    let a = c.args in
    let t = a.self in
    let makes : Makes t.rules.now a.rule (rule_at t.rules.now a.rule).part (Pair c.in-Pair.left c.in-Pair.right) = record { listed = c.requires.rule; for_part = refl; by_side = c.in-Pair.is } in
    let named = pair_named t.parts t.rules.now a.rule t.ranged _ c.in-Pair.left c.in-Pair.right makes in
    index_in_board t.parts a.span.before a.span.len _ (g.H.Sheet.places t.sheet.now) (length a.outside.now) named.0 a.span.some c.requires.few c.requires.pushed.room

pub entry_at-requires : goal.entry_at-requires
entry_at-requires g c =
    let a = c.args in
    let t = a.self in
    let i = c.loop.invariant in
    let n = g.H.Sheet.places t.sheet.now in
    let makes : Makes t.rules.now a.rule (rule_at t.rules.now a.rule).part (Pair c.in-Pair.left c.in-Pair.right) = record { listed = c.requires.rule; for_part = refl; by_side = c.in-Pair.is } in
    let named = pair_named t.parts t.rules.now a.rule t.ranged _ c.in-Pair.left c.in-Pair.right makes in
    let room : spans_before n * t.parts ≤ length a.inside.now = rw (entries_are n t.parts) at c.requires.room in
    let at = rw (i.parts, i.span, i.right, i.split) at c.next-left_index.ensures.right in
    rw at (index_in_board t.parts (a.span.before + c.loop.counter) (a.span.len - c.loop.counter) c.in-Pair.right n (length a.inside.now) named.2 (omega arith) (omega arith) room)

pub entry_at-requires-in-loop : goal.entry_at-requires-in-loop
entry_at-requires-in-loop g c =
    let a = c.args in
    let t = a.self in
    let i = c.loop.invariant in
    let n = g.H.Sheet.places t.sheet.now in
    let makes : Makes t.rules.now a.rule (rule_at t.rules.now a.rule).part (Pair c.in-Pair.left c.in-Pair.right) = record { listed = c.requires.rule; for_part = refl; by_side = c.in-Pair.is } in
    let named = pair_named t.parts t.rules.now a.rule t.ranged _ c.in-Pair.left c.in-Pair.right makes in
    let room : spans_before n * t.parts ≤ length a.inside.now = rw (entries_are n t.parts) at c.requires.room in
    let at = rw (i.parts, i.span, i.left, i.split) at c.next-left_index.ensures.left in
    rw at (index_in_board t.parts a.span.before c.loop.counter c.in-Pair.left n (length a.inside.now) named.1 (omega arith) (omega arith) room)

pub lower_at-requires : goal.lower_at-requires
lower_at-requires g c =
    let a = c.args in
    let t = a.self in
    let i = c.loop.invariant in
    let n = g.H.Sheet.places t.sheet.now in
    let makes : Makes t.rules.now a.rule (rule_at t.rules.now a.rule).part (Pair c.in-Pair.left c.in-Pair.right) = record { listed = c.requires.rule; for_part = refl; by_side = c.in-Pair.is } in
    let named = pair_named t.parts t.rules.now a.rule t.ranged _ c.in-Pair.left c.in-Pair.right makes in
    let room = i.pushed.room in
    let at = rw (i.parts, i.span, i.left, i.split) at c.next-left_index.ensures.left in
    rw at (index_in_board t.parts a.span.before c.loop.counter c.in-Pair.left n (length c.loop.outside) named.1 (omega arith) (omega arith) room)

pub lower_at-requires-in-loop : goal.lower_at-requires-in-loop
lower_at-requires-in-loop g c =
    let a = c.args in
    let t = a.self in
    let i = c.loop.invariant in
    let n = g.H.Sheet.places t.sheet.now in
    let makes : Makes t.rules.now a.rule (rule_at t.rules.now a.rule).part (Pair c.in-Pair.left c.in-Pair.right) = record { listed = c.requires.rule; for_part = refl; by_side = c.in-Pair.is } in
    let named = pair_named t.parts t.rules.now a.rule t.ranged _ c.in-Pair.left c.in-Pair.right makes in
    let room : spans_before n * t.parts ≤ length c.lower_at.new.board = omega (arith, c.lower_at.auto.board, i.pushed.room) in
    let at = rw (i.parts, i.span, i.right, i.split) at c.next-left_index.ensures.right in
    rw at (index_in_board t.parts (a.span.before + c.loop.counter) (a.span.len - c.loop.counter) c.in-Pair.right n (length c.lower_at.new.board) named.2 (omega arith) (omega arith) room)

pub loop-preserved : goal.loop-preserved
loop-preserved g c =
    let a = c.args in
    let t = a.self in
    let o = g.S.Scale.ops in
    let n = g.H.Sheet.places t.sheet.now in
    let l = c.loop in
    let i = l.invariant in
    let next = c.next-left_index.ensures in
    let left = c.in-Pair.left in
    let right = c.in-Pair.right in
    let part = (rule_at t.rules.now a.rule).part in
    let makes : Makes t.rules.now a.rule part (Pair left right) = record { listed = c.requires.rule; for_part = refl; by_side = c.in-Pair.is } in
    let named = pair_named t.parts t.rules.now a.rule t.ranged part left right makes in
    let some : 1 ≤ l.counter = omega arith in
    let at_left = rw (i.parts, i.span, i.left, i.split) at next.left in
    let at_right = rw (i.parts, i.span, i.right, i.split) at next.right in
    let after = rw at_right at (c.entry_at.ensures o.barred) in
    let beside = rw at_left at (c.entry_at-in-loop.ensures o.barred) in
    let on_left = rw at_left at c.lower_at.ensures in
    let on_right = rw at_right at c.lower_at-in-loop.ensures in
    let laws = g.met.S.Scale.lawful in
    let W = g.W.Prices.weights t.prices.now t.rules.now in
    let kept = span_kept laws W t.rules.now n t.parts a.inside.now l.outside a.rule part left right a.span.before a.span.len l.counter makes named.1 named.2 some c.loop-test.true c.requires.few c.lower_at.new.board c.lower_at-in-loop.new.board (lesser_of o (entry_of o.barred t.parts l.outside left a.span.before l.counter) c.join-to_left.result) (lesser_of o (entry_of o.barred t.parts c.lower_at.new.board right (a.span.before + l.counter) (a.span.len - l.counter)) c.join-to_right.result) named.0 on_left on_right in
    record {
      parts = next.parts ∙ i.parts;
      span = next.span ∙ i.span;
      left = next.left_same ∙ i.left;
      right = next.right_same ∙ i.right;
      split = next.split ∙ ap (λ x. x + 1) i.split;
      pushed = split_code laws W t.rules.now n t.parts a.inside.now l.outside a.rule part left right a.span.before a.span.len l.counter makes named.1 named.2 some c.loop-test.true c.requires.few
          c.lower_at.new.board c.lower_at-in-loop.new.board c.join-around.result c.entry_at.result c.entry_at-in-loop.result c.join-to_left.result c.join-to_right.result
          i.around beside after c.join-to_left.ensures c.join-to_right.ensures on_left on_right i.pushed;
      around = i.around ∙ ap (λ x. o.join x (W a.rule (a.span.before + 1) a.span.len)) (sym kept);
    }

pub returns-after-loop : goal.returns-after-loop
returns-after-loop g c =
    let a = c.args in
    let t = a.self in
    rule_ends g.met.S.Scale.lawful (g.W.Prices.weights t.prices.now t.rules.now) t.rules.now (g.H.Sheet.places t.sheet.now) t.parts a.inside.now c.loop.outside a.span.before a.span.len a.rule c.loop.counter a.span.some c.loop-test.false c.loop.invariant.pushed
