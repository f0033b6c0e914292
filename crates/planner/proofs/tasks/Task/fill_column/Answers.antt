use Rattle.std.proofs.Common.{length, arith}
use Rattle.planner.proofs.Indexing.{spans_last, column_room}
use Rattle.planner.proofs.tasks.Task.fill_column.Goals as goal

pub fill_span-requires-clause-room : goal.fill_span-requires-clause-room
fill_span-requires-clause-room g c =
    let a = c.args in
    rw (c.new.ensures.before, c.new.ensures.len) (column_room a.self.parts a.last c.loop-len.len (length c.loop-len.board) (omega arith) (omega arith) (omega arith))

pub returns : goal.returns
returns g c = λ part before len h some less. c.loop-len.invariant part before len h some (omega (arith, spans_last c.args.last c.requires.some))
