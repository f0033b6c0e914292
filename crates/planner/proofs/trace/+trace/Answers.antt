use Rattle.std.proofs.Common.{◌≡◌, ◌+◌, ◌*◌, ◌/◌, ◌≤◌, length, ap, arith}
use Rattle.planner.specs.Boards.{spans_before}
use Rattle.planner.proofs.Indexing.{index_in_board, spans_mono, rows_within}
use Rattle.planner.proofs.Following.{follows_code, follows_cut, follows_pair, halves_written}
use Rattle.planner.proofs.trace.+trace.Goals as goal

pub entry-code-requires-clause-room : goal.entry-code-requires-clause-room
entry-code-requires-clause-room t c =
    let a = c.args in
    index_in_board a.parts a.span.before a.span.len a.part (a.span.before + a.span.len) (length a.codes.now) c.requires.part a.span.some (omega arith) c.requires.codes

pub bounds-rules-code : goal.bounds-rules-code
bounds-rules-code t c =
    let a = c.args in
    let f = c.requires.follows in
    let code = follows_code a.rules.now a.codes.now a.parts a.part a.span.before a.span.len c.entry-code.result (c.entry-code.ensures 0) c.requires.rules f.0 f.1 in
    omega (arith, code.1, code.2)

pub left-requires-clause-some : goal.left-requires-clause-some
left-requires-clause-some t c =
    let a = c.args in
    let f = c.requires.follows in
    (follows_pair a.rules.now a.codes.now a.parts a.part a.span.before a.span.len c.entry-code.result (c.entry-code.ensures 0) c.requires.rules c.in-Pair.left c.in-Pair.right c.requires.ranged c.in-Pair.is f.0 f.1).some

pub left-requires-clause-fewer : goal.left-requires-clause-fewer
left-requires-clause-fewer t c =
    let a = c.args in
    let f = c.requires.follows in
    (follows_pair a.rules.now a.codes.now a.parts a.part a.span.before a.span.len c.entry-code.result (c.entry-code.ensures 0) c.requires.rules c.in-Pair.left c.in-Pair.right c.requires.ranged c.in-Pair.is f.0 f.1).fewer

pub trace-requires : goal.trace-requires
trace-requires t c =
    let a = c.args in
    let f = c.requires.follows in
    let h = follows_pair a.rules.now a.codes.now a.parts a.part a.span.before a.span.len c.entry-code.result (c.entry-code.ensures 0) c.requires.rules c.in-Pair.left c.in-Pair.right c.requires.ranged c.in-Pair.is f.0 f.1 in
    let end : c.left.result.before + c.left.result.len ≤ a.span.before + a.span.len = omega (arith, h.fewer) in
    let row = rows_within (spans_before (c.left.result.before + c.left.result.len)) (spans_before (a.span.before + a.span.len)) a.parts (spans_mono _ _ end) in
    (omega (arith, c.decreases, h.fewer), (h.part_left, (c.requires.rules, (c.requires.ranged, (omega (arith, row), (omega (arith, end), (h.a, rw (c.left.ensures.before, c.left.ensures.len) h.follows_left)))))))

pub right-requires : goal.right-requires
right-requires t c =
    let a = c.args in
    let f = c.requires.follows in
    (follows_pair a.rules.now a.codes.now a.parts a.part a.span.before a.span.len c.entry-code.result (c.entry-code.ensures 0) c.requires.rules c.in-Pair.left c.in-Pair.right c.requires.ranged c.in-Pair.is f.0 f.1).fewer

pub trace-requires-in-Pair : goal.trace-requires-in-Pair
trace-requires-in-Pair t c =
    let a = c.args in
    let f = c.requires.follows in
    let h = follows_pair a.rules.now a.codes.now a.parts a.part a.span.before a.span.len c.entry-code.result (c.entry-code.ensures 0) c.requires.rules c.in-Pair.left c.in-Pair.right c.requires.ranged c.in-Pair.is f.0 f.1 in
    let end : c.right.result.before + c.right.result.len ≡ a.span.before + a.span.len = omega (arith, h.fewer) in
    let row = ap (λ x. spans_before x * a.parts) end in
    (omega (arith, c.decreases, h.some), (h.part_right, (c.requires.rules, (c.requires.ranged, (omega (arith, row), (omega (arith, end), (h.b, rw (c.right.ensures.before, c.right.ensures.len) h.follows_right)))))))

pub returns-in-Cut : goal.returns-in-Cut
returns-in-Cut t c tree f =
    let a = c.args in
    follows_cut a.rules.now a.codes.now a.parts a.part a.span.before a.span.len c.entry-code.result (c.entry-code.ensures 0) c.requires.rules c.in-Cut.stroke a.run.now c.in-Cut.is tree f

pub returns-in-Pair : goal.returns-in-Pair
returns-in-Pair t c tree f =
    let a = c.args in
    let h = follows_pair a.rules.now a.codes.now a.parts a.part a.span.before a.span.len c.entry-code.result (c.entry-code.ensures 0) c.requires.rules c.in-Pair.left c.in-Pair.right c.requires.ranged c.in-Pair.is tree f in
    let on_left = c.trace.ensures h.a (rw (c.left.ensures.before, c.left.ensures.len) h.follows_left) in
    let on_right = c.trace-in-Pair.ensures h.b (rw (c.right.ensures.before, c.right.ensures.len) h.follows_right) in
    halves_written a.rules.now a.codes.now a.parts c.in-Pair.left c.in-Pair.right a.span.before a.span.len (c.entry-code.result / 128) tree a.run.now c.trace.new.run c.trace-in-Pair.new.run h (rw c.left.ensures.before at on_left) (rw c.right.ensures.before at on_right)
