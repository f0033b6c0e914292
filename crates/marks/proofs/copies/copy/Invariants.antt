use Rattle.std.proofs.Common.{◌≡◌}
use Rattle.marks.proofs.Copying.{copied_before}
use Rattle.marks.proofs.copies.copy.Given as goal

abbrev pub invariant-loop-place : goal.invariant-loop-place
invariant-loop-place g l =
    let a = g.A.Sheet in
    let b = g.B.Sheet in
    (b.shown l.to ≡ copied_before (b.places l.initial.to) (a.shown l.from) (b.shown l.initial.to) l.place)
    × b.kept l.initial.to l.to
