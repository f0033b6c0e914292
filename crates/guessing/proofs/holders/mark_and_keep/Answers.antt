use Rattle.std.proofs.Common.{ap}
use Rattle.marks.specs.Marks.{state}
use Rattle.guessing.proofs.Calling.{marked_as}
use Rattle.marks.proofs.Keeping.{fewer_same, same_then}
use Rattle.guessing.proofs.holders.mark_and_keep.Goals as goal

pub returns-clause-sheet : goal.returns-clause-sheet
returns-clause-sheet g c =
    let h = g.H.Sheet in
    let start = c.args.sheet.now in
    let marked = c.mark.new.self in
    let mark = marked_as (state h.places h.shown start) (state h.places h.shown marked) c.in_ok-mark.ensures.state in
    same_then h.laws start marked c.in_ok-mark.ensures.sheet c.keep_held.new.sheet (fewer_same (ap (λ s. s.shown) mark)) c.keep_held.ensures.sheet
