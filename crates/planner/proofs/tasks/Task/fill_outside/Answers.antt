use Rattle.std.proofs.Common.{◌≡◌, ◌-◌, ◌*◌, ◌≤◌, length, subst, arith}
use Rattle.planner.specs.Boards.{spans_before}
use Rattle.planner.specs.Pushes.{PushedDown, FromSpan}
use Rattle.planner.proofs.Indexing.{index_in_board, entries_are}
use Rattle.planner.proofs.Settling.{none_pushed, settled}
use Rattle.planner.proofs.tasks.Task.fill_outside.Goals as goal

pub put-requires-clause-room : goal.put-requires-clause-room
put-requires-clause-room g c =
    let t = c.args.self in
    let n = g.H.Sheet.places t.sheet.now in
    let room : spans_before n * t.parts ≤ length c.bar.new.board = omega (arith, c.requires.outside, entries_are n t.parts, c.bar.auto.board) in
    rw (c.new.ensures.before, c.new.ensures.len, c.length-length.ensures) (index_in_board t.parts 0 n 0 n (length c.bar.new.board) t.some_parts c.requires.some (omega arith) room)

pub loop-passed-init : goal.loop-passed-init
loop-passed-init g c =
    let t = c.args.self in
    let n = g.H.Sheet.places t.sheet.now in
    let room : spans_before n * t.parts ≤ length c.bar.new.board = omega (arith, c.requires.outside, entries_are n t.parts, c.bar.auto.board) in
    let all : n - 0 ≡ n = omega arith in
    rw (all, c.put.ensures, c.new.ensures.before, c.new.ensures.len, c.length-length.ensures, c.free.ensures) (none_pushed g.met.S.Scale.lawful (g.W.Prices.weights t.prices.now t.rules.now) t.rules.now n t.parts c.args.inside.now c.bar.new.board c.requires.some t.some_parts room c.bar.ensures)

pub returns : goal.returns
returns g c =
    let t = c.args.self in
    let n = g.H.Sheet.places t.sheet.now in
    let none : n - c.loop-passed.passed ≡ 0 = omega (arith, c.loop-passed-test.false, c.length-length.ensures) in
    settled g.met.S.Scale.lawful (g.W.Prices.weights t.prices.now t.rules.now) t.rules.now n t.parts c.args.inside.now (g.H.Sheet.shown t.sheet.now) c.loop-passed.outside t.ranged c.requires.inside
    (subst (λ j. PushedDown g.S.Scale.ops (g.W.Prices.weights t.prices.now t.rules.now) t.rules.now n t.parts c.args.inside.now c.loop-passed.outside (FromSpan (spans_before j))) none c.loop-passed.invariant)
