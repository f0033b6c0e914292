use Rattle.std.proofs.Common.{◌≡◌, length, arith}
use Rattle.planner.specs.Boards.{entry_of}
use Rattle.planner.proofs.Indexing.{index_in_board, columns_room}
use Rattle.planner.proofs.tasks.Task.least.Goals as goal

pub entry-requires-clause-room : goal.entry-requires-clause-room
entry-requires-clause-room g c =
    let t = c.args.self in
    let n = g.H.Sheet.places t.sheet.now in
    rw (c.new.ensures.before, c.new.ensures.len, c.length.ensures) (index_in_board t.parts 0 n 0 n (length c.args.board.now) t.some_parts c.requires.some (omega arith) (columns_room t.parts n n (length c.args.board.now) (omega arith) c.requires.room))

pub returns : goal.returns
returns g c =
    let t = c.args.self in
    let n = g.H.Sheet.places t.sheet.now in
    let barred = g.S.Scale.ops.barred in
    let e : c.entry.result ≡ entry_of barred t.parts c.args.board.now 0 0 n = cc (c.entry.ensures barred) in
    rw e (c.requires.inside 0 0 n t.some_parts c.requires.some (omega arith))
