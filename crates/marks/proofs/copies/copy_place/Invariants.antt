use Rattle.std.proofs.Common.{◌≡◌}
use Rattle.marks.proofs.Copying.{copied_below}
use Rattle.marks.proofs.copies.copy_place.Given as goal

abbrev pub invariant-loop-stroke : goal.invariant-loop-stroke
invariant-loop-stroke g l =
    let a = g.A.Sheet in
    let b = g.B.Sheet in
    (b.shown l.to ≡ copied_below (b.places l.initial.to) (a.shown l.from) (b.shown l.initial.to) l.place l.stroke)
    × b.kept l.initial.to l.to
