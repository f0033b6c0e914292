use Rattle.std.proofs.Common.{arith}
use Rattle.std.proofs.lemmas.Bool.Decides.{nat_tests}
use Rattle.marks.proofs.Marking.{marked_state}
use Rattle.marks.proofs.marked.Marked.set_mark.Goals as goal

pub returns-clause-state : goal.returns-clause-state
returns-clause-state g c =
    let s = g.H.Sheet in
    let below = c.args.self.now.below.now in
    rw c.push.ensures.items (marked_state (s.places below) c.args.self.now.marks.rows.items c.row_of-row.result (s.shown below) (grind (arith, nat_tests)) c.row_of-row.ensures (s.laws.within below))
