use Rattle.std.proofs.Common.{◌+◌, ◌*◌, ◌≤◌, length, arith}
use Rattle.planner.specs.Boards.{spans_before}
use Rattle.planner.proofs.Indexing.{index_in_board, entries_are}
use Rattle.planner.proofs.Naming.{part_named}
use Rattle.planner.proofs.closing.Support.cut_by.Goals as goal

pub entry-around-requires-clause-room : goal.entry-around-requires-clause-room
entry-around-requires-clause-room g c =
    let s = c.args.self.now in
    let b = c.args.before in
    let room : spans_before (b + 1) * s.parts ≤ length s.outside.now = rw (entries_are (b + 1) s.parts) at c.requires.room in
    rw (c.new.ensures.before, c.new.ensures.len) (index_in_board s.parts b 1 _ (b + 1) (length s.outside.now) (part_named s.parts s.rules.now c.args.rule s.ranged c.requires.rule) (omega arith) (omega arith) room)
