use Rattle.std.proofs.Common.{◌-◌, length, arith}
use Rattle.planner.proofs.Indexing.{number_within, columns_room}
use Rattle.planner.proofs.tasks.Task.fill_inside.Goals as goal

pub fill_column-requires-clause-room : goal.fill_column-requires-clause-room
fill_column-requires-clause-room g c = columns_room c.args.self.parts c.loop-last.last (g.H.Sheet.places c.args.self.sheet.now) (length c.loop-last.board) (omega arith) (omega arith)

pub returns : goal.returns
returns g c = λ part before len h some few. c.loop-last.invariant part before len h some (number_within before len (c.loop-last.last - 1) some (omega arith))
