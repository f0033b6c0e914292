use Rattle.std.proofs.Common.{◌≡◌}
use Rattle.lending.proofs.Closing.{closed_below}
use Rattle.lending.proofs.closings.close_all_but.Given as goal

abbrev pub invariant-loop-letter : goal.invariant-loop-letter
invariant-loop-letter g l =
    let s = g.S.Sheet in
    (s.shown l.sheet ≡ closed_below (s.shown l.initial.sheet) l.place l.stroke l.letter)
    × s.kept l.initial.sheet l.sheet
