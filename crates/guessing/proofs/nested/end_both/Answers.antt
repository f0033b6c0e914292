use Rattle.std.proofs.Common.{ap}
use Rattle.marks.specs.Marks.{sheet_number, state}
use Rattle.guessing.proofs.Calling.{kept_as}
use Rattle.marks.proofs.Keeping.{fewer_same, same_then}
use Rattle.guessing.proofs.nested.end_both.Goals as goal

pub returns-clause-sheet : goal.returns-clause-sheet
returns-clause-sheet g c =
    let h = g.H.Sheet in
    let start = c.args.marked.now in
    let kept = c.keep.new.self in
    let keep = kept_as (sheet_number start) _ _ (state h.places h.shown start) (state h.places h.shown kept) (rw c.unwrap.ensures at c.keep.ensures.state) in
    same_then h.laws start kept c.keep.ensures.sheet c.back.new.self (fewer_same (ap (λ s. s.shown) keep)) c.back.ensures.sheet
